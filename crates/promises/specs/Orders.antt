-- Settings and numbers that differ in their byte order alone.
use Rattle.std.specs.Prelude.{ℤ}
use Rattle.words.specs.declared.byte_order.ByteOrder.{ByteOrder}
use Rattle.descriptor.specs.declared.numbers.Settings.{Settings}
use Rattle.descriptor.specs.declared.numbers.DescriptorNumbers.{DescriptorNumbers}

-- settings with another order
abbrev pub settings_with : ℤ → Settings → Settings
settings_with order s = record {
  order = order;
  reclen = s.reclen;
  kind = s.kind;
  vind = s.vind;
  lind = s.lind;
  flags = s.flags;
  lex1 = s.lex1;
  gex = s.gex;
}

-- numbers with another order
abbrev pub numbers_with : ByteOrder → DescriptorNumbers → DescriptorNumbers
numbers_with order d = record {
  order = order;
  reclen = d.reclen;
  kind = d.kind;
  vind = d.vind;
  lind = d.lind;
  flags = d.flags;
  xnext = d.xnext;
  nextrec = d.nextrec;
  nextword = d.nextword;
  lex1 = d.lex1;
  nex = d.nex;
  gex = d.gex;
}
