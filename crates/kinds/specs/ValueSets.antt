-- Value sets: the numbers of 64 bits but 0, read as the sets of their one-bits. One set is at or below another when it is
-- a part of it, and a set without the bit 2^63 is a leaf.
use Rattle.std.specs.Prelude.{ℕ, ◌-◌, ◌^◌, Bool, ◌&&◌, ◌==◌, bit_and, nat_lt}
use Rattle.kinds.specs.Meaning.{Meaning}

abbrev pub is_set : ℕ → Bool
is_set v = nat_lt 0 v && nat_lt v (2 ^ 64)

abbrev pub value_sets : Meaning
value_sets = record {
  value = is_set;
  top = 2 ^ 64 - 1;
  below = λ v w. is_set v && (is_set w && bit_and v w == v);
  leaf = λ v. nat_lt 0 v && nat_lt v (2 ^ 63);
}
