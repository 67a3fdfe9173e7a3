-- What is wrong with terms and aparts, by what was looked at.
use Rattle.std.proofs.Common.{◌≡◌, ℕ, suc, ◌+◌, ◌<◌, ◌≤◌, Bool, true, false, cond, ltb, List, [], ◌∷◌, length, Some, None, sym, refl, ap, ◌∙◌, add-one}
use mathlib.Core.Option.{Option, some, none}
use Rattle.std.specs.declared.option.Option as rust
use Rattle.std.specs.List.{position, position_from}
use Rattle.std.proofs.lemmas.Bool.{lt-ltb, le-ltb, cond-true, cond-false}
use Rattle.std.proofs.lemmas.Iterator.Adapters.{position_from-zero}
use Rattle.kinds.specs.Meaning.{Meaning}
use Rattle.features.specs.Terms.{Term, Statement, apart}
use Rattle.features.specs.Holding.{aparts_of}
use Rattle.answers.specs.declared.refusal.Side.{Side}
use Rattle.answers.specs.declared.refusal.Refusal.{Refusal}
use Rattle.answers.specs.declared.refusal.Refusal.TheVariants.{NoAttribute, ShortTrail, ApartsFull}
pub use Rattle.answers.proofs.Faults.{faultless_sound, faultless_pair}
use Rattle.answers.specs.Answers.{first_refusal, above_31, pair_fault, full_fault, fault}

-- a fault by the position of an attribute
abbrev by_position : Side → rust.Option ℕ → Option Refusal
by_position side None = none
by_position side (Some i) = some (NoAttribute side i)

above_from : (side : Side) (at : ℕ) (xs : List ℕ) → above_31 side at xs ≡ by_position side (position_from (ltb 31) at xs)
above_from side at [] = refl
above_from side at (a ∷ rest) =
    elim (ltb 31 a) as (λ b. cond b (some (NoAttribute side at)) (above_31 side (suc at) rest) ≡ by_position side (cond b (Some at) (position_from (ltb 31) (at + 1) rest)))
    [ true ↦ refl | false ↦ rw add-one (above_from side (suc at) rest) ]

-- the first attribute above 31 is where it is looked for
pub above_found : (side : Side) (xs : List ℕ) (i : ℕ) → position (ltb 31) xs ≡ Some i → above_31 side 0 xs ≡ some (NoAttribute side i)
above_found side xs i e = above_from side 0 xs ∙ ap (by_position side) (sym (position_from-zero (ltb 31) xs) ∙ e)

pub above_none : (side : Side) (xs : List ℕ) → position (ltb 31) xs ≡ None → above_31 side 0 xs ≡ none
above_none side xs e = above_from side 0 xs ∙ ap (by_position side) (sym (position_from-zero (ltb 31) xs) ∙ e)

-- the first thing at fault with an apart, in the order in which it is looked for
module _ (m : Meaning) (vars : ℕ) (said : List Statement) (p q : Term) (room : ℕ) where
  abbrev past_terms : Option Refusal → Option Refusal
  past_terms o = first_refusal o (first_refusal (cond (ltb room 272) (some ShortTrail) none) (full_fault said (apart p q)))

  pub apart_terms : (o : Option Refusal) → pair_fault vars p q ≡ o → fault m vars said (apart p q) room ≡ past_terms o
  apart_terms o e = ap past_terms e

  module _ (terms : pair_fault vars p q ≡ none) where
    pub apart_short_trail : room < 272 → fault m vars said (apart p q) room ≡ some ShortTrail
    apart_short_trail l =
        apart_terms none terms ∙ ap (λ (b : Bool). first_refusal (cond b (some ShortTrail) none) (full_fault said (apart p q))) (lt-ltb room 272 l)

    module _ (long : 272 ≤ room) where
      past_trail : fault m vars said (apart p q) room ≡ full_fault said (apart p q)
      past_trail =
          apart_terms none terms ∙ ap (λ (b : Bool). first_refusal (cond b (some ShortTrail) none) (full_fault said (apart p q))) (le-ltb room 272 long)

      pub aparts_full : 128 ≤ length (aparts_of said) → fault m vars said (apart p q) room ≡ some ApartsFull
      aparts_full full = past_trail ∙ cond-false (ltb (length (aparts_of said)) 128) none (some ApartsFull) (le-ltb (length (aparts_of said)) 128 full)

      pub apart_faultless : length (aparts_of said) < 128 → fault m vars said (apart p q) room ≡ none
      apart_faultless left = past_trail ∙ cond-true (ltb (length (aparts_of said)) 128) none (some ApartsFull) (lt-ltb (length (aparts_of said)) 128 left)
