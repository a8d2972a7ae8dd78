-- Laws of the bytes that a name is spelt into, 0 behind it (R2.13).
-- Assumes nothing.
use mathlib.Core.Path.{◌≡◌, sym, ◌∙◌}
use mathlib.Core.List.{List, ◌++◌, append-nil}
use Prim.Native.Nat.{ℕ, suc, ◌+◌, ◌≤◌}
use native.Mathlib.Numerals.{add-one}
use lib.ListN.{set, replicate, take, drop}
use lib.Seq.{set_at, append_snoc}
use Rattle.std.proofs.lemmas.List.{take-replicate, drop-replicate}
use Rattle.definitions.specs.Limits.{name_limit, byte_bits}
use Rattle.definitions.specs.Words.{lane_at}
use Rattle.definitions.specs.AccountWords.{name_at}
use Rattle.definitions.specs.ReadBack.{padded_name}
use Rattle.definitions.proofs.AccountWords.{name-length}

module _ (w : List ℕ) (i : ℕ) where
  -- the bytes of a row's name so far, and those to come
  abbrev pub spelt : ℕ → ℕ → List ℕ
  spelt n rest = name_at w i n ++ replicate rest 0

  pub spelt-none : (n rest : ℕ) → rest ≡ n → n ≤ name_limit → take n (replicate name_limit 0) ≡ spelt 0 rest
  unfolding name_at
  spelt-none n rest e h = rw e (take-replicate n name_limit 0 h)

  pub spelt-more : (n rest less : ℕ) → rest ≡ suc less → set (spelt n rest) n (lane_at byte_bits w i n) ≡ spelt (n + 1) less
  unfolding name_at
  spelt-more n rest less e =
      rw (add-one, e)
      (set_at (name_at w i n) 0 (replicate less 0) (lane_at byte_bits w i n) n (name-length w i n)
      ∙ sym (append_snoc (name_at w i n) (lane_at byte_bits w i n) (replicate less 0)))

  pub spelt-all : (n rest : ℕ) → rest ≡ 0 → spelt n rest ++ drop n (replicate name_limit 0) ≡ padded_name (name_at w i n)
  unfolding padded_name
  spelt-all n rest e = rw (e, name-length, append-nil, drop-replicate)
