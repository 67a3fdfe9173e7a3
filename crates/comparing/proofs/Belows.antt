-- One value is at or below another exactly where it is the meet of both.
use Rattle.std.proofs.Common.{◌≡◌, ℕ, Bool, true, false, eqb, refl, subst, eq-eqb, eqb-true}
use Rattle.std.proofs.lemmas.Bool.{both_ways}
use Rattle.kinds.specs.Meaning.{Meaning, Lawful, Both, Greatest}

module _ (m : Meaning) (laws : Lawful m) (v w : ℕ) where
  own_lower : m.below v w ≡ true → Both m v w v
  own_lower b = (laws.same v (laws.values v w b).0, b)

  pub no_meet_not_below : ((c : ℕ) → Both m v w c → ⊥) → m.below v w ≡ false
  no_meet_not_below none = pick (m.below v w) refl
    where
      pick : (b : Bool) → m.below v w ≡ b → m.below v w ≡ false
      pick true e = absurd (none v (own_lower e))
      pick false e = e

  pub meet_tells_below : (u : ℕ) → Greatest m v w u → eqb u v ≡ m.below v w
  meet_tells_below u g = pick (m.below v w) (eqb u v) refl refl
    where
      pick : (b d : Bool) → m.below v w ≡ b → eqb u v ≡ d → d ≡ b
      pick true true e f = refl
      pick true false e f = absurd (both_ways (eqb u v) f (eq-eqb u v (laws.antisym u v g.0.0 (g.1 v (own_lower e)))))
      pick false true e f = absurd (both_ways (m.below v w) e (subst (λ (z : ℕ). m.below z w ≡ true) (eqb-true u v f) g.0.1))
      pick false false e f = refl
