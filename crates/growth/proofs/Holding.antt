-- From standing to holding and back.
use mathlib.Core.Path.{◌≡◌, refl, sym, ap, subst, ◌∙◌}
use mathlib.Core.Logic.{◌⊎◌, inl, inr}
use mathlib.Core.Option.{some}
use mathlib.Core.List.Memᴰ
use mathlib.Core.List.{List, [], ◌∷◌, ◌++◌, Memᴰ}
use Prim.Native.Nat.{ℕ, suc}
use native.Mathlib.Omega.{arith}
use Rattle.kinds.specs.Meaning.{Meaning}
use Rattle.features.specs.Terms.{Term, Statement, equals, is, apart}
use Rattle.features.specs.Graphs.{Denotes}
use Rattle.features.specs.Closing.{Valued}
use Rattle.features.specs.Holding.{Sound, Proper, aparts_of}
use Rattle.features.proofs.Held.{held_shape}
use Rattle.growth.specs.Standing.{Judged, greatest}
use Rattle.growth.specs.Theorems.{SameShapeStandsAlike, StandingHolds, HoldingStands, AcceptedHolds, DeclaredHolds}
use Rattle.growth.proofs.Keeping.{denotes_kept, denotes_before}
use Rattle.growth.proofs.Declaring.{new_variable_stands}

pub same_shape_stands : SameShapeStandsAlike
same_shape_stands m g h state state' vars said same states stands = record {
  shape = record {
    all = same.vars ∙ stands.shape.all;
    joined = λ p q j. let d = stands.shape.joined p q j in (d.0, keeps p d.0 d.1, keeps q d.0 d.2);
    nothing_else = λ p q n d e. stands.shape.nothing_else p q n (before p n d) (before q n e);
    reached = λ n lt. let r = stands.shape.reached n (omega (arith, lt, same.nodes)) in (r.0, keeps r.0 n r.1);
    inside = λ p n d. omega (arith, stands.shape.inside p n (before p n d), same.nodes);
  };
  judged = λ p n d. rw (states n (stands.shape.inside p n (before p n d))) (stands.judged p n (before p n d));
}
  where
    keeps : (p : Term) (n : ℕ) → Denotes g p n → Denotes h p n
    keeps = denotes_kept g vars said stands.shape h same.roots (omega (arith, same.vars)) (λ n a k lt e. same.edges n a lt ∙ e)

    before : (p : Term) (n : ℕ) → Denotes h p n → Denotes g p n
    before p n d = denotes_before g vars said stands.shape h same.roots same.edges p n (omega (arith, d.0, same.vars)) d

judged_value : {m : Meaning} {vars : ℕ} {said : List Statement} {p : Term} {v : ℕ} → Judged m vars said p (some v) → Valued m vars said p v
judged_value (greatest valued) = valued

pub standing_holds : StandingHolds
standing_holds m g state kept vars said stands values proper aparts = record {
  proper = proper;
  aparts = aparts;
  all = stands.shape.all;
  joined = stands.shape.joined;
  nothing_else = stands.shape.nothing_else;
  reached = stands.shape.reached;
  inside = stands.shape.inside;
  values = λ p n d. judged_value (subst (Judged m vars said p) (values n (stands.shape.inside p n d)) (stands.judged p n d));
}

pub holding_stands : HoldingStands
holding_stands m g kept vars said holds = record {
  shape = held_shape m g kept vars said holds;
  judged = λ p n d. greatest (holds.values p n d);
}

aparts_append : (said : List Statement) (more : List Statement) → aparts_of (said ++ more) ≡ aparts_of said ++ aparts_of more
aparts_append [] more = refl
aparts_append (equals p q ∷ rest) more = aparts_append rest more
aparts_append (is p v ∷ rest) more = aparts_append rest more
aparts_append (apart p q ∷ rest) more = ap {B = List Statement} (λ r. apart p q ∷ r) (aparts_append rest more)

pub accepted_holds : AcceptedHolds
accepted_holds m g h state kept kept' vars said s holds good stands values aparts =
    standing_holds m h state kept' vars (said ++ (s ∷ [])) stands values proper (aparts ∙ ap (λ (k : List Statement). k ++ aparts_of (s ∷ [])) holds.aparts ∙ sym (aparts_append said (s ∷ [])))
  where
    proper : (r : Statement) → Memᴰ r (said ++ (s ∷ [])) → Proper m vars r
    proper r i = pick (Memᴰ.append_cases said i)
      where
        pick : Memᴰ r said ⊎ Memᴰ r (s ∷ []) → Proper m vars r
        pick (inl j) = holds.proper r j
        pick (inr j) = subst (Proper m vars) (sym (Memᴰ.eq_of_singleton j)) good

sound_more : {vars : ℕ} {t : Term} → Sound vars t → Sound (suc vars) t
sound_more sound = record { declared = omega (arith, sound.declared); short = sound.short; small = sound.small }

proper_more : (m : Meaning) (vars : ℕ) (s : Statement) → Proper m vars s → Proper m (suc vars) s
proper_more m vars (equals p q) h = (sound_more h.0, sound_more h.1)
proper_more m vars (is p v) h = (sound_more h.0, h.1)
proper_more m vars (apart p q) h = (sound_more h.0, sound_more h.1)

pub declared_holds : DeclaredHolds
declared_holds m lawful g h state' kept vars said holds new values =
    let stands = new_variable_stands m lawful g h (λ n. some (g.value n)) state' vars said (holding_stands m g kept vars said holds) new in
    standing_holds m h state' kept (suc vars) said stands values (λ s i. proper_more m vars s (holds.proper s i)) holds.aparts
