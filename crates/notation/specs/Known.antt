-- That numbers are within their limits can be known in one way only, so that it can stand beside them as a fact.
use Rattle.std.specs.Prelude.{ℕ, ◌^◌, ◌<◌, Some, None, Option}
use Rattle.std.specs.List.{AllByRecursion-prop}
use Rattle.std.proofs.Math.Bridge.{le_prop}
use Rattle.features.specs.Terms.{Term}
use Rattle.notation.specs.Notation.{Sized}
use Rattle.notation.specs.Readings.{Reading, start, named, within_term, within_value, SizedPlace, SizedStem, Below, Ranged}
use Rattle.notation.specs.declared.state.Place.{Place}

sized_prop : (t : Term) → IsProp (Sized t)
sized_prop t x y = λ i.
    record {
      var = le_prop x.var y.var i;
      path = AllByRecursion-prop (λ a. a < 2 ^ 16) (λ a. le_prop) t.path x.path y.path i;
    }

stem_prop : (stem : Option Term) → IsProp (SizedStem stem)
stem_prop None x y = λ i. tt
stem_prop (Some t) x y = sized_prop t x y

below_prop : (limit : ℕ) (n : Option ℕ) → IsProp (Below limit n)
below_prop limit None x y = λ i. tt
below_prop limit (Some n) x y = le_prop x y

place_prop : (place : Place) → IsProp (SizedPlace place)
place_prop Place.Value x y = λ i. tt
place_prop Place.Is x y = λ i. tt
place_prop (Place.Left r) x y = λ i. tt
place_prop (Place.Right r t) x y = sized_prop t x y

pub ranged_prop : (s : Reading) → IsProp (Ranged s)
ranged_prop start x y = λ i. tt
ranged_prop (named c) x y = λ i. tt
ranged_prop (within_term place stem n) x y = λ i. (place_prop place x.0 y.0 i, stem_prop stem x.1 y.1 i, below_prop (2 ^ 16) n x.2 y.2 i)
ranged_prop (within_value t n) x y = λ i. (sized_prop t x.0 y.0 i, below_prop (2 ^ 64) n x.1 y.1 i)
