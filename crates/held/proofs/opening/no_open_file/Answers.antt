-- `held::opening::no_open_file` meets its contract: the default of a record is all zeros, its tables too. Assumes nothing.
use Rattle.std.proofs.Common.{◌≡◌, ℕ, ◌<◌, List, length, get_or, replicate, sym, ◌∙◌, rules}
use Rattle.std.proofs.lemmas.List.{ext_get_or, length-replicate, get_or-replicate}
use Rattle.descriptor.specs.Answers.{no_numbers}
use Rattle.held.proofs.opening.no_open_file.Goals as goal

-- a table whose elements are all one, is that one over and over
filled : {A : Type 0} (x : A) (xs : List A) (n : ℕ) → length xs ≡ n → ((i : ℕ) (d : A) → i < n → get_or xs i d ≡ x) → xs ≡ replicate n x
filled x xs n l e = ext_get_or x xs (replicate n x) (l ∙ sym (length-replicate n x)) (λ i h. e i x (rw l at h) ∙ sym (get_or-replicate n i x x (rw l at h)))

pub returns : goal.returns
returns c =
    let e = c.default.ensures in
    let numbers : c.default.result.numbers ≡ no_numbers = search rules in
    λ i. record {
      refusal = c.args.refusal;
      file = record {
        numbers = numbers i;
        addresses = filled (record { 0 = 0 }) c.default.result.addresses 16 e.1.0.long (λ k d h. λ j. record { 0 = e.1.0.at k d h j }) i;
        totals = filled 0 c.default.result.totals 16 e.1.1.long e.1.1.at i;
      };
    }
