-- Greatest values at or below a list, taken one value at a time.
use Rattle.std.proofs.Common.{◌≡◌, ℕ, ◌+◌, ◌<◌, true, ◌⊎◌, List, [], ◌∷◌, ◌++◌, length, get_or, take, drop, Some, None, Option, refl, ap, ◌∙◌, subst, inl, inr, take-append-drop, MatchOption}
use mathlib.Core.List.Memᴰ
use mathlib.Core.List.{Memᴰ}
use Rattle.std.proofs.lemmas.List.{take_more}
use Rattle.kinds.specs.Meaning.{Meaning, Lawful, Both, Greatest, BelowAll, GreatestOfAll}
use Rattle.kinds.specs.Meets.{MeetOfTwo, Apart, MeetOfAll, Among, SameMembers, MeetOfMembers}

-- more values have fewer at or below them all
pub below_fewer : (m : Meaning) (vs ws : List ℕ) (v : ℕ) → Among vs ws → BelowAll m ws v → BelowAll m vs v
below_fewer m vs ws v among below = (below.0, λ w h. below.1 w (among w h))

-- none stays none, whatever comes later
pub apart_more : (m : Meaning) (vs ws : List ℕ) → Among vs ws → Apart m vs → Apart m ws
apart_more m vs ws among apart v below = apart v (below_fewer m vs ws v among below)

pub greatest_members : (m : Meaning) (vs ws : List ℕ) (v : ℕ) → SameMembers vs ws → GreatestOfAll m vs v → GreatestOfAll m ws v
greatest_members m vs ws v same greatest =
    (below_fewer m ws vs v same.1 greatest.0, λ u below. greatest.1 u (below_fewer m vs ws u same.0 below))

pub meet_members : (m : Meaning) (vs ws : List ℕ) (r : Option ℕ) → SameMembers vs ws → MeetOfAll m vs r → MeetOfAll m ws r
meet_members m vs ws None same apart = apart_more m vs ws same.0 apart
meet_members m vs ws (Some v) same greatest = greatest_members m vs ws v same greatest

pub below_cons : (m : Meaning) (vs : List ℕ) (v u : ℕ) → m.below u v ≡ true → BelowAll m vs u → BelowAll m (v ∷ vs) u
below_cons m vs v u first rest = (rest.0, λ w h. each w (Memᴰ.cases_cons h))
  where
    each : (w : ℕ) → (w ≡ v) ⊎ Memᴰ w vs → m.below u w ≡ true
    each w (inl e) = ap (m.below u) e ∙ first
    each w (inr h) = rest.1 w h

pub below_head : (m : Meaning) (vs : List ℕ) (v u : ℕ) → BelowAll m (v ∷ vs) u → m.below u v ≡ true
below_head m vs v u below = below.1 v (Memᴰ.head refl)

pub below_tail : (m : Meaning) (vs : List ℕ) (v u : ℕ) → BelowAll m (v ∷ vs) u → BelowAll m vs u
below_tail m vs v u below = below_fewer m vs (v ∷ vs) u (λ w h. Memᴰ.tail h) below

-- a value at the end, or at the start
push_members : (vs : List ℕ) (v : ℕ) → SameMembers (v ∷ vs) (vs ++ v ∷ [])
push_members vs v = (λ w h. to w (Memᴰ.cases_cons h), λ w h. from w (Memᴰ.append_cases vs h))
  where
    to : (w : ℕ) → (w ≡ v) ⊎ Memᴰ w vs → Memᴰ w (vs ++ v ∷ [])
    to w (inl e) = Memᴰ.append_right vs (Memᴰ.head e)
    to w (inr h) = Memᴰ.append_left (v ∷ []) h

    from : (w : ℕ) → Memᴰ w vs ⊎ Memᴰ w (v ∷ []) → Memᴰ w (v ∷ vs)
    from w (inl h) = Memᴰ.tail h
    from w (inr h) = Memᴰ.head (Memᴰ.eq_of_singleton h)

pub take_among : (n : ℕ) (xs : List ℕ) → Among (take n xs) xs
take_among n xs w h = subst (λ (ys : List ℕ). Memᴰ w ys) (take-append-drop n xs) (Memᴰ.append_left (drop n xs) h)

module _ (m : Meaning) (laws : Lawful m) where
  -- every value is at or below each of no values, and the top is the greatest of all
  pub greatest_none : (v : ℕ) → v ≡ m.top → GreatestOfAll m [] v
  greatest_none v top =
      ((ap m.value top ∙ laws.top_value, λ w h. absurd (Memᴰ.not-nil h)), λ u below. ap (m.below u) top ∙ laws.under_top u below.0)

  abbrev Best : (ℕ → Type 0) → Option ℕ → Type 0
  Best P r = MatchOption r ((c : ℕ) → P c → ⊥) (λ v. P v × ((e : ℕ) → P e → m.below e v ≡ true))

  -- the greatest is unique
  pub greatest_unique : (vs : List ℕ) (u v : ℕ) → GreatestOfAll m vs u → GreatestOfAll m vs v → u ≡ v
  greatest_unique vs u v gu gv = laws.antisym u v (gv.1 u gu.0) (gu.1 v gv.0)

  -- so is the greatest with a property, or none where nothing has it
  best_unique : (P : ℕ → Type 0) (r s : Option ℕ) → Best P r → Best P s → r ≡ s
  best_unique P None None p q = refl
  best_unique P None (Some v) p q = absurd (p v q.0)
  best_unique P (Some u) None p q = absurd (q u p.0)
  best_unique P (Some u) (Some v) p q = ap Some (laws.antisym u v (q.1 u p.0) (p.1 v q.0))

  -- the meet of two values
  pub pair_unique : (a b : ℕ) (r s : Option ℕ) → MeetOfTwo m a b r → MeetOfTwo m a b s → r ≡ s
  pair_unique a b = best_unique (Both m a b)

  -- the meet of a list
  pub meet_unique : (vs : List ℕ) (r s : Option ℕ) → MeetOfAll m vs r → MeetOfAll m vs s → r ≡ s
  meet_unique vs = best_unique (BelowAll m vs)

  -- a value more: the meet of it and of the greatest so far
  pub greatest_cons : (vs : List ℕ) (g v d : ℕ) → GreatestOfAll m vs g → Greatest m g v d → GreatestOfAll m (v ∷ vs) d
  greatest_cons vs g v d greatest meet = (
    below_cons m vs v d meet.0.1
        ((laws.values d g meet.0.0).0, λ w h. laws.trans d g w meet.0.0 (greatest.0.1 w h)),
    λ u below. meet.1 u (greatest.1 u (below_tail m vs v u below), below_head m vs v u below),
  )

  -- a value more that has none at or below it and the greatest so far: none for all
  pub apart_cons : (vs : List ℕ) (g v : ℕ) → GreatestOfAll m vs g → ((c : ℕ) → Both m g v c → ⊥) → Apart m (v ∷ vs)
  apart_cons vs g v greatest none u below = none u (greatest.1 u (below_tail m vs v u below), below_head m vs v u below)

  pub meet_cons : (vs : List ℕ) (g v : ℕ) (r : Option ℕ) → GreatestOfAll m vs g → MeetOfTwo m g v r → MeetOfAll m (v ∷ vs) r
  meet_cons vs g v None greatest none = apart_cons vs g v greatest none
  meet_cons vs g v (Some d) greatest meet = greatest_cons vs g v d greatest meet

  -- the same with the next value of a list that is read from its start
  pub meet_next : (xs : List ℕ) (i g : ℕ) (r : Option ℕ) → i < length xs → GreatestOfAll m (take i xs) g
      → MeetOfTwo m g (get_or xs i 0) r → MeetOfAll m (take (i + 1) xs) r
  meet_next xs i g r within greatest meet =
      let v = get_or xs i 0 in
      rw (take_more xs i 0 within)
      (meet_members m (v ∷ take i xs) (take i xs ++ v ∷ []) r (push_members (take i xs) v) (meet_cons (take i xs) g v r greatest meet))

  pub meet_of_members : (vs : List ℕ) (r : Option ℕ) → MeetOfAll m vs r → MeetOfMembers m vs r
  meet_of_members vs r meet ws same =
      (meet_members m vs ws r same meet, λ s other. meet_unique ws s r other (meet_members m vs ws r same meet))
