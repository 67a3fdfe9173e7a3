-- How numbers are given, from one mention to the next.
use Rattle.std.proofs.Common.{◌≡◌, ℕ, suc, ◌+◌, ◌<◌, ◌≤◌, ◌⊎◌, sym, refl, ap, ◌∙◌, subst, inl, inr, arith}
use mathlib.Core.Option.{some}
use Rattle.std.proofs.lemmas.Bool.{cases_lt}
use Rattle.features.specs.Graphs.{Graph}
use Rattle.features.specs.Numbering.{Mention, by_variable, by_attribute, Sooner}
use Rattle.numbering.specs.Frontier.{MentionsNode, NumberedBefore}
use Rattle.numbering.proofs.Pigeonholes.{Distinct, room_left}

-- l comes right after k
pub record Follows (k l : Mention) : Type 0 where
  pub sooner : Sooner k l
  pub before : (h : Mention) → Sooner h k → Sooner h l
  pub none_between : (h : Mention) → Sooner h l → Sooner h k ⊎ (h ≡ k)

pub variable_follows : (x : ℕ) → Follows (by_variable x) (by_variable (x + 1))
variable_follows x = record { sooner = omega arith; before = before; none_between = none_between }
  where
    before : (h : Mention) → Sooner h (by_variable x) → Sooner h (by_variable (x + 1))
    before (by_variable y) s = omega arith
    before (by_attribute i a) s = s

    none_between : (h : Mention) → Sooner h (by_variable (x + 1)) → Sooner h (by_variable x) ⊎ (h ≡ by_variable x)
    none_between (by_variable y) s = elim (cases_lt y x) [ inl l ↦ inl l | inr l ↦ inr (let e : y ≡ x = omega arith in ap by_variable e) ]
    none_between (by_attribute i a) s = absurd s

pub attribute_follows : (j b : ℕ) → Follows (by_attribute j b) (by_attribute j (b + 1))
attribute_follows j b = record { sooner = inr (refl, omega arith); before = before; none_between = none_between }
  where
    before : (h : Mention) → Sooner h (by_attribute j b) → Sooner h (by_attribute j (b + 1))
    before (by_variable y) s = tt
    before (by_attribute i a) (inl s) = inl s
    before (by_attribute i a) (inr s) = inr (s.0, omega (arith, s.1))

    none_between : (h : Mention) → Sooner h (by_attribute j (b + 1)) → Sooner h (by_attribute j b) ⊎ (h ≡ by_attribute j b)
    none_between (by_variable y) s = inl tt
    none_between (by_attribute i a) (inl s) = inl (inl s)
    none_between (by_attribute i a) (inr (e, s)) =
        elim (cases_lt a b) [ inl l ↦ inl (inr (e, l)) | inr l ↦ inr (let f : a ≡ b = omega arith in cc) ]

pub not_itself : (k : Mention) → Sooner k k → ⊥
not_itself (by_variable x) s = omega arith
not_itself (by_attribute i a) (inl s) = omega arith
not_itself (by_attribute i a) (inr s) = omega (arith, s.1)

pub not_both_ways : (k l : Mention) → Sooner k l → Sooner l k → ⊥
not_both_ways (by_variable x) (by_variable y) s t = omega arith
not_both_ways (by_variable x) (by_attribute j b) s t = t
not_both_ways (by_attribute i a) (by_variable y) s t = s
not_both_ways (by_attribute i a) (by_attribute j b) (inl s) (inl t) = omega arith
not_both_ways (by_attribute i a) (by_attribute j b) (inl s) (inr t) = omega (arith, t.0)
not_both_ways (by_attribute i a) (by_attribute j b) (inr s) (inl t) = omega (arith, s.0)
not_both_ways (by_attribute i a) (by_attribute j b) (inr s) (inr t) = omega (arith, s.1, t.1)

-- a mention mentions one node
mentions_one : (g : Graph) (c d : ℕ) (o : ℕ → ℕ) (x y : ℕ) (l : Mention) → MentionsNode g c o x l → MentionsNode g d o y l → x ≡ y
mentions_one g c d o x y (by_variable z) p q = sym p.1 ∙ q.1
mentions_one g c d o x y (by_attribute i a) p q = let e = p.1 in let f = q.1 in cc

module _ (g : Graph) (c : ℕ) (o o' : ℕ → ℕ) (same : (k : ℕ) → k < c → o' k ≡ o k) where
  -- what was mentioned is mentioned with more numbers too
  still_mentions : (b y : ℕ) (l : Mention) → b ≤ c → MentionsNode g b o y l → MentionsNode g b o' y l
  still_mentions b y (by_variable x) le p = p
  still_mentions b y (by_attribute i a) le p =
      (p.0, subst (λ (z : ℕ). g.edge z a ≡ some y) (sym (same i (omega (arith, p.0)))) p.1)

  -- a mention up to one by a numbered node is by a numbered node
  mentioned_already : (b x y : ℕ) (k l : Mention) → MentionsNode g c o x k → MentionsNode g b o' y l → Sooner l k ⊎ (l ≡ k) → MentionsNode g c o y l
  mentioned_already b x y k (by_variable z) p q s = q
  mentioned_already b x y (by_variable z) (by_attribute i a) p q (inl s) = absurd s
  mentioned_already b x y (by_variable z) (by_attribute i a) p q (inr s) = absurd (let z : ◌≡◌ {A = ℕ} 0 1 = cc in omega arith)
  mentioned_already b x y (by_attribute j d) (by_attribute i a) p q s =
      let lt = giver s in (lt, subst (λ (z : ℕ). g.edge z a ≡ some y) (same i lt) q.1)
    where
      giver : ((i < j) ⊎ ((i ≡ j) × (a < d))) ⊎ (by_attribute i a ≡ by_attribute j d) → i < c
      giver (inl (inl s)) = omega (arith, p.0)
      giver (inl (inr s)) = omega (arith, p.0, s.0)
      giver (inr s) = let e : i ≡ j = cc s in omega (arith, p.0)

module _ (g : Graph) (m : Mention) (c : ℕ) (o n : ℕ → ℕ) (gi : ℕ → Mention) (at : NumberedBefore g m c o n gi) where
  -- where nothing is mentioned in between
  pub advance : (m' : Mention) → ((h : Mention) → Sooner h m → Sooner h m')
      → ((y : ℕ) (l : Mention) → MentionsNode g c o y l → Sooner l m' → Sooner l m) → NumberedBefore g m' c o n gi
  advance m' before none = record {
    inside = at.inside;
    numbered = at.numbered;
    mentioned = at.mentioned;
    before = λ k lt. before (gi k) (at.before k lt);
    rising = at.rising;
    all = λ y l p s. at.all y l p (none y l p s);
  }

  pub distinct : Distinct o c
  distinct j k lt in_c e = omega (arith, sym (at.numbered j (omega arith)) ∙ ap n e ∙ at.numbered k in_c)

  pub few : c ≤ g.nodes
  few = let h = room_left (suc g.nodes) c g.nodes o (omega arith) (λ k lt. omega (arith, at.inside k lt)) distinct (λ k lt e. omega (arith, at.inside k lt)) in omega arith

  module _ (row : ℕ) (m' : Mention) (follows : Follows m m') (here : MentionsNode g c o row m) where
    -- the node that m mentions has a number
    pub known : (n row < c) × (o (n row) ≡ row) → NumberedBefore g m' c o n gi
    known has = record {
      inside = at.inside;
      numbered = at.numbered;
      mentioned = at.mentioned;
      before = λ k lt. follows.before (gi k) (at.before k lt);
      rising = at.rising;
      all = λ y l p s. by_case y l p (follows.none_between l s);
    }
      where
        by_case : (y : ℕ) (l : Mention) → MentionsNode g c o y l → Sooner l m ⊎ (l ≡ m) → (n y < c) × (o (n y) ≡ y) × (Sooner l (gi (n y)) → ⊥)
        by_case y l p (inl s) = at.all y l p s
        by_case y l p (inr e) =
            let is : row ≡ y = mentions_one g c c o row y m here (subst (λ (z : Mention). MentionsNode g c o y z) e p) in
            let lt : n y < c = subst (λ (z : ℕ). n z < c) is has.0 in
            (lt, subst (λ (z : ℕ). o (n z) ≡ z) is has.1, λ t. not_both_ways l (gi (n y)) t (subst (λ (z : Mention). Sooner (gi (n y)) z) (sym e) (at.before (n y) lt)))

  module _ (row : ℕ) (row_in : row < g.nodes) (fresh : (n row < c) × (o (n row) ≡ row) → ⊥) where
    not_yet : (k : ℕ) → k < c → o k ≡ row → ⊥
    not_yet k lt e =
        let is : n row ≡ k = ap n (sym e) ∙ at.numbered k lt in
        fresh (omega arith, ap o is ∙ e)

    pub one_free : c < g.nodes
    one_free = room_left g.nodes c row o row_in at.inside distinct not_yet

    module _ (m' : Mention) (follows : Follows m m') (here : MentionsNode g c o row m) (o' n' : ℕ → ℕ) (gi' : ℕ → Mention) (order : (k : ℕ) → k < c → o' k ≡ o k) (last : o' c ≡ row) (number : (x : ℕ) → (x ≡ row → ⊥) → n' x ≡ n x) (its : n' row ≡ c) (mention : (k : ℕ) → k < c → gi' k ≡ gi k) (new : gi' c ≡ m) where
      case : {P : ℕ → Type 0} (k : ℕ) → k < c + 1 → ((k : ℕ) → k < c → P k) → P c → P k
      case {P} k lt below here = elim (cases_lt k c) [ inl l ↦ below k l | inr l ↦ let e : c ≡ k = omega arith in subst P e here ]

      -- it gets the next one
      pub extended : NumberedBefore g m' (c + 1) o' n' gi'
      extended = record {
        inside = λ k lt. case {P = λ j. o' j < g.nodes} k lt (λ j l. rw (order j l) (at.inside j l)) (rw last row_in);
        numbered = λ k lt. case {P = λ j. n' (o' j) ≡ j} k lt (λ j l. ap n' (order j l) ∙ number (o j) (not_yet j l) ∙ at.numbered j l) (ap n' last ∙ its);
        mentioned = λ k lt. case {P = λ j. MentionsNode g j o' (o' j) (gi' j)} k lt
            (λ j l. rw (order j l, mention j l) (still_mentions g c o o' order j (o j) (gi j) (omega arith) (at.mentioned j l)))
            (rw (last, new) (still_mentions g c o o' order c row m (omega arith) here));
        before = λ k lt. case {P = λ j. Sooner (gi' j) m'} k lt (λ j l. rw (mention j l) (follows.before (gi j) (at.before j l))) (rw new follows.sooner);
        rising = λ j k lt in_c. case {P = λ i. j < i → Sooner (gi' j) (gi' i)} k in_c
            (λ i l less. rw (mention j (omega arith), mention i l) (at.rising j i less l))
            (λ less. rw (mention j less, new) (at.before j less)) lt;
        all = λ y l p s. let t = follows.none_between l s in by_case y l (mentioned_already g c o o' order (c + 1) row y m l here p t) t;
      }
        where
          by_case : (y : ℕ) (l : Mention) → MentionsNode g c o y l → Sooner l m ⊎ (l ≡ m) → (n' y < c + 1) × (o' (n' y) ≡ y) × (Sooner l (gi' (n' y)) → ⊥)
          by_case y l p (inl s) =
              let r = at.all y l p s in
              let lt : n y < c = r.0 in
              let is : n' y ≡ n y = number y (λ e. fresh (subst (λ (z : ℕ). (n z < c) × (o (n z) ≡ z)) e (lt, r.1))) in
              (omega arith, ap o' is ∙ order (n y) lt ∙ r.1, λ t. r.2 (subst (λ (z : Mention). Sooner l z) (ap gi' is ∙ mention (n y) lt) t))
          by_case y l p (inr e) =
              let is : row ≡ y = mentions_one g c c o row y m here (subst (λ (z : Mention). MentionsNode g c o y z) e p) in
              let number_is : n' y ≡ c = ap n' (sym is) ∙ its in
              (omega arith, ap o' number_is ∙ last ∙ is, λ t. not_itself m (subst (λ (z : Mention). Sooner m z) (ap gi' number_is ∙ new) (subst (λ (z : Mention). Sooner z (gi' (n' y))) e t)))
