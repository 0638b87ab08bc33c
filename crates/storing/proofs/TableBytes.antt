-- Laws of the three tables of an entry as bytes, and of a loop that writes one. Assumes nothing.
use mathlib.Core.Path.{◌≡◌, refl, sym, ap, subst, ◌∙◌}
use mathlib.Core.List.{List, [], ◌∷◌, ◌++◌, append_assoc, append-nil}
use Prim.Native.Nat.{ℕ, zero, suc, ◌+◌, ◌*◌, ◌≤◌, ◌<◌}
use native.Mathlib.Omega.{arith}
use native.Mathlib.Nat.{mul-suc}
use native.Mathlib.Numerals.{add-one}
use lib.IntN.{ℤ, pos}
use lib.ListN.{length, get_or, take, length-append}
use lib.Seq.{take-suc, take_all, length-take-le}
use mir.Syntax.{Width}
use mir.Val.{bytes as width}
use Rattle.image.specs.Image.{part, splice}
use Rattle.image.proofs.Part.{part_left, part_right, part-all}
use Rattle.image.proofs.Splice.{splice-nil, splice-adjacent}
use Rattle.words.specs.declared.byte_order.ByteOrder.{ByteOrder}
use Rattle.words.specs.Word.{integer4, integer8, numeral, signed_numeral}
use Rattle.words.proofs.Number.{length-numeral}
use Rattle.geometry.specs.declared.units.EntryAddress.{EntryAddress}
use Rattle.storing.specs.Handed.{words_of, sum_of}
use Rattle.storing.specs.Writing.{integer_bytes, identifier_bytes, length_bytes, address_bytes}

-- the bytes of a table are those of its elements in order, `width` each. An element's bytes may tell its address, which is `a` plus the
-- lengths before it
pub record Table (width : ℕ) (item : ℕ → ℤ → List ℕ) (bytes : ℕ → List ℤ → List ℕ) : Type 0 where
  pub none : (a : ℕ) → bytes a [] ≡ []
  pub more : (a : ℕ) (z : ℤ) (zs : List ℤ) → bytes a (z ∷ zs) ≡ item a z ++ bytes (a + words_of z) zs
  pub wide : (a : ℕ) (z : ℤ) → length (item a z) ≡ width

module _ {width : ℕ} {item : ℕ → ℤ → List ℕ} {bytes : ℕ → List ℤ → List ℕ} (t : Table width item bytes) where
  -- so a table of so many elements has `width` bytes for each
  pub table-length : (a : ℕ) (zs : List ℤ) → length (bytes a zs) ≡ width * length zs
  table-length a [] = rw (t.none a) (omega arith)
  table-length a (z ∷ zs) =
      rw (t.more a z zs, length-append, t.wide a z, table-length (a + words_of z) zs, mul-suc) (omega arith)

  -- elements behind others
  table-append : (a : ℕ) (xs ys : List ℤ) → bytes a (xs ++ ys) ≡ bytes a xs ++ bytes (a + sum_of xs) ys
  table-append a [] ys = let z : a + 0 ≡ a = omega arith in rw (t.none a, z)
  table-append a (x ∷ xs) ys =
      let s : a + (words_of x + sum_of xs) ≡ a + words_of x + sum_of xs = omega arith in
      rw (t.more a x (xs ++ ys), t.more a x xs, table-append (a + words_of x) xs ys, append_assoc, s)

  -- and one element more
  table-next : (a : ℕ) (zs : List ℤ) (k : ℕ) → k < length zs
      → bytes a (take (k + 1) zs) ≡ bytes a (take k zs) ++ item (a + sum_of (take k zs)) (get_or zs k (pos 0))
  table-next a zs k h =
      rw (add-one, take-suc zs k (pos 0), table-append, t.more (a + sum_of (take k zs)) (get_or zs k (pos 0)) [], t.none, append-nil)

  -- a loop that writes a table has passed the first k elements: they are written over the image
  abbrev pub Passed : List ℕ → ℕ → ℕ → List ℤ → ℕ → List ℕ → Type 0
  Passed image at a zs k now = (k ≤ length zs) × (length now ≡ length image) × (now ≡ splice image at (bytes a (take k zs)))

  -- it begins with none of them
  pub passed_none : (image : List ℕ) (at a : ℕ) (zs : List ℤ) → Passed image at a zs 0 image
  passed_none image at a zs = (omega arith, refl, rw (t.none a) (sym (splice-nil image at)))

  -- a turn writes the next behind them
  pub passed-next : (image : List ℕ) (at a : ℕ) (zs : List ℤ) (k : ℕ) (now after : List ℕ) (b : ℕ) → k < length zs
      → Passed image at a zs k now → length after ≡ length now → b ≡ at + width * k
      → after ≡ splice now b (item (a + sum_of (take k zs)) (get_or zs k (pos 0))) → Passed image at a zs (k + 1) after
  passed-next image at a zs k now after b h p s q w =
      let l : length (take k zs) ≡ k = length-take-le k zs (omega arith) in
      let i = item (a + sum_of (take k zs)) (get_or zs k (pos 0)) in (
        omega arith,
        s ∙ p.1,
        w
            ∙ ap (λ (x : List ℕ). splice x b i) p.2
            ∙ splice-adjacent image at (bytes a (take k zs)) b i (rw (table-length, l) q)
            ∙ ap (splice image at) (sym (table-next a zs k h)),
      )

  -- and it ends with the whole table
  pub passed-all : (image : List ℕ) (at a : ℕ) (zs : List ℤ) (k : ℕ) (now : List ℕ) → length zs ≤ k → Passed image at a zs k now → now ≡ splice image at (bytes a zs)
  passed-all image at a zs k now h p = rw (take_all k zs h) at p.2

  -- element k stands behind the k before it
  pub table-item : (a : ℕ) (zs : List ℤ) (k : ℕ) → k < length zs → part (bytes a zs) (width * k) width ≡ item (a + sum_of (take k zs)) (get_or zs k (pos 0))
  table-item a [] k h = absurd (omega arith)
  table-item a (z ∷ zs) zero h =
      let w = t.wide a z in
      let o : width * 0 ≡ 0 = omega arith in
      let s : a + 0 ≡ a = omega arith in
      rw (t.more a z zs, o, s)
      (part_left (item a z) (bytes (a + words_of z) zs) 0 width (omega (arith, w))
      ∙ subst (λ (n : ℕ). part (item a z) 0 n ≡ item a z) w (part-all (item a z)))
  table-item a (z ∷ zs) (suc k) h =
      let s : a + (words_of z + sum_of (take k zs)) ≡ a + words_of z + sum_of (take k zs) = omega arith in
      rw (t.more a z zs, s)
      (part_right (item a z) (bytes (a + words_of z) zs) (width * suc k) (width * k) width (rw (t.wide a z, mul-suc) (omega arith))
      ∙ table-item (a + words_of z) zs k (omega arith))

-- the table of identifiers, and that of lengths
pub integer-table : (o : ByteOrder) (w : Width) → Table (width w) (λ a z. signed_numeral o w z) (λ a zs. integer_bytes o w zs)
integer-table o w = record { none = λ a. refl; more = λ a z zs. refl; wide = λ a z. length-numeral o (width w) _ }

-- the table of addresses
pub address-table : (o : ByteOrder) → Table 8 (λ a z. numeral o 8 a) (λ a zs. address_bytes o (record { 0 = a }) zs)
address-table o = record { none = λ a. refl; more = λ a z zs. refl; wide = λ a z. length-numeral o 8 a }

-- the bytes of so many identifiers
pub length-identifier_bytes : (o : ByteOrder) (zs : List ℤ) → length (identifier_bytes o zs) ≡ 4 * length zs
length-identifier_bytes o zs = table-length (integer-table o integer4) 0 zs

-- of so many lengths
pub length-length_bytes : (o : ByteOrder) (zs : List ℤ) → length (length_bytes o zs) ≡ 8 * length zs
length-length_bytes o zs = table-length (integer-table o integer8) 0 zs

-- and of so many addresses
pub length-address_bytes : (o : ByteOrder) (a : EntryAddress) (zs : List ℤ) → length (address_bytes o a zs) ≡ 8 * length zs
length-address_bytes o a zs = table-length (address-table o) a.0 zs
