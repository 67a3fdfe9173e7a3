-- A row whose targets are sent elsewhere, attribute by attribute.
use Rattle.std.proofs.Common.{◌≡◌, ℕ, Bool, true, false, ◌⊎◌, sym, refl, ap, ◌∙◌, subst, inl, inr}
use mathlib.Core.Option.{map}
use Rattle.std.proofs.lemmas.Bool.{cases_eq, both_ways}
use Rattle.kinds.specs.Masks.{has}
use Rattle.kinds.specs.BitSets.{has_none}
use Rattle.tables.specs.Attributes.{Lowest, WithoutLowest}
use Rattle.tables.specs.declared.node.Node.{Node}
use Rattle.tables.specs.Views.{edge_of}
use Rattle.tables.proofs.Leading.{not_present}

-- the attributes of `rest` are as they were, and the others lead where f sends them
abbrev pub Partly : (ℕ → ℕ) → ℕ → Node → Node → Type 0
Partly f rest start now =
    (now.value ≡ start.value)
    × ((c : ℕ) → has rest c ≡ false → edge_of now c ≡ map f (edge_of start c))
    × ((c : ℕ) → has rest c ≡ true → edge_of now c ≡ edge_of start c)

pub partly_begun : (f : ℕ → ℕ) (node : Node) → Partly f node.present node node
partly_begun f node = (refl, λ c e. not_present node c e ∙ ap (map f) (sym (not_present node c e)), λ c e. refl)

module _ (f : ℕ → ℕ) (rest a rest' : ℕ) (start now then : Node) (low : Lowest rest a) (without : WithoutLowest rest rest') (partly : Partly f rest start now)
    (value : then.value ≡ now.value) (leads : edge_of then a ≡ map f (edge_of now a)) (others : (c : ℕ) → (c ≡ a → ⊥) → edge_of then c ≡ edge_of now c) where
  pub partly_more : Partly f rest' start then
  partly_more = (value ∙ partly.0, resolved, λ c e. others c (unlike c e) ∙ partly.2 c (old c true (unlike c e) e))
    where
      unlike : (c : ℕ) → has rest' c ≡ true → c ≡ a → ⊥
      unlike c e d = both_ways (has rest' c) (ap (has rest') d ∙ without.gone a low) e

      old : (c : ℕ) (b : Bool) → (c ≡ a → ⊥) → has rest' c ≡ b → has rest c ≡ b
      old c b n e = sym (without.others a c low n) ∙ e

      resolved : (c : ℕ) → has rest' c ≡ false → edge_of then c ≡ map f (edge_of start c)
      resolved c e = by_place (cases_eq c a)
        where
          by_place : (c ≡ a) ⊎ (c ≡ a → ⊥) → edge_of then c ≡ map f (edge_of start c)
          by_place (inl d) =
              subst (λ (z : ℕ). edge_of then z ≡ map f (edge_of start z)) (sym d) (leads ∙ ap (map f) (partly.2 a low.present))
          by_place (inr n) = others c n ∙ partly.1 c (old c false n e)

pub partly_ended : (f : ℕ → ℕ) (rest : ℕ) (start now : Node) → rest ≡ 0 → Partly f rest start now → (c : ℕ) → edge_of now c ≡ map f (edge_of start c)
partly_ended f rest start now e partly c = partly.1 c (ap (λ (z : ℕ). has z c) e ∙ has_none c)
