-- Atoms: the numbers 0 to 65,535. The top is 0, and each other atom is a leaf, below itself and 0 only.
use Rattle.std.specs.Prelude.{ℕ, ◌^◌, Bool, ◌&&◌, ◌||◌, ◌==◌, nat_lt}
use Rattle.kinds.specs.Meaning.{Meaning}

abbrev pub is_atom : ℕ → Bool
is_atom v = nat_lt v (2 ^ 16)

abbrev pub atoms : Meaning
atoms = record {
  value = is_atom;
  top = 0;
  below = λ v w. is_atom v && (v == w || w == 0);
  leaf = λ v. is_atom v && nat_lt 0 v;
}
