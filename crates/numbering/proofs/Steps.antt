-- A mention, on the numbers that are kept.
use Rattle.std.proofs.Common.{◌≡◌, ℕ, ◌+◌, ◌-◌, ◌<◌, ◌≤◌, ◌⊎◌, List, [], ◌∷◌, ◌++◌, map, length, get_or, drop, vec_items, vec_len, sym, refl, ap, ◌∙◌, subst, inl, inr, arith, length-append, length-drop, get_or-set_other, get_or-set_same}
use Rattle.std.proofs.Math.ListN.{get_or-map}
use lib.Seq.{drop-append-le}
use Rattle.std.proofs.lemmas.List.{drop_more, get_or_read, length-map, map-append}
use Rattle.std.proofs.lemmas.Bool.{cases_lt, cases_eq}
use Rattle.features.specs.Graphs.{Graph}
use Rattle.features.specs.Numbering.{Mention, by_variable, by_attribute, Sooner}
use Rattle.tables.specs.declared.table.Table.{Table}
use Rattle.tables.specs.Views.{graph, Sound}
use Rattle.tables.proofs.Extended.{kept_before, added_last}
use Rattle.numbering.specs.declared.mention.Mention.{Mention as Found}
use Rattle.numbering.specs.declared.mention.Mention.TheVariants.{Variable}
use Rattle.numbering.specs.declared.numbers.Listed.{Listed}
use Rattle.numbering.specs.declared.numbers.Numbers.{Numbers}
use Rattle.numbering.specs.Given.{meaning, blank, entry, ord, numbered_rows, num, given, HasNumber, Next}
use Rattle.numbering.specs.Frontier.{MentionsNode, NumberedBefore, Underway}
use Rattle.numbering.proofs.Frontiers.{Follows, variable_follows, advance, known, one_free, extended}

pub has_or_not : (n : Numbers) (row : ℕ) → HasNumber n row ⊎ (HasNumber n row → ⊥)
has_or_not n row = pick (cases_lt (num n row) (vec_len n.listed)) (cases_eq (ord n (num n row)) row)
  where
    pick : (num n row < (vec_len n.listed)) ⊎ ((vec_len n.listed) ≤ num n row) → (ord n (num n row) ≡ row) ⊎ (ord n (num n row) ≡ row → ⊥) → HasNumber n row ⊎ (HasNumber n row → ⊥)
    pick (inl lt) (inl e) = inl (lt, e)
    pick (inl lt) (inr e) = inr (λ h. e h.1)
    pick (inr le) e = inr (λ h. omega (arith, h.0))

-- as many rows are listed as have numbers
rows_long : (n : Numbers) → length (numbered_rows n) ≡ vec_len n.listed
rows_long n = length-map (vec_items n.listed) _ ∙ sym n.listed.ok.0

-- as many rows wait as have a number and were not visited
pub waiting_long : (g : Graph) (m : Mention) (v : ℕ) (n : Numbers) (waits : List ℕ) → Underway g m v n waits → length waits ≡ (vec_len n.listed) - v
waiting_long g m v n waits at = ap length at.waiting ∙ length-drop v (numbered_rows n) ∙ ap (λ (k : ℕ). k - v) (rows_long n)

-- there is room for a row that has no number
pub free : (g : Graph) (m : Mention) (v : ℕ) (n : Numbers) (waits : List ℕ) (row room : ℕ) → Underway g m v n waits → g.nodes ≤ 272 → 272 ≤ room → row < g.nodes
    → (HasNumber n row → ⊥) → ((vec_len n.listed) < 272) × (length waits < room)
free g m v n waits row room at nodes space row_in fresh =
    let h = one_free g m (vec_len n.listed) (ord n) (num n) (given n) at.numbered row row_in fresh in
    let l = waiting_long g m v n waits at in
    (omega arith, omega arith)

module _ (g : Graph) (m m' : Mention) (v : ℕ) (n n' : Numbers) (waits waits' : List ℕ) (row : ℕ) (how : Found) (at : Underway g m v n waits) (follows : Follows m m') (is : meaning how ≡ m) (nodes : g.nodes ≤ 272) (row_in : row < g.nodes) (here : MentionsNode g (vec_len n.listed) (ord n) row m) (if-known : HasNumber n row → (n' ≡ n) × (waits' ≡ waits)) (if-fresh : (HasNumber n row → ⊥) → Next n n' row how × (waits' ≡ waits ++ (row ∷ []))) where
  when_known : HasNumber n row → Underway g m' v n' waits'
  when_known has =
      let e = if-known has in
      let same : Underway g m' v n waits = record {
        numbered = known g m (vec_len n.listed) (ord n) (num n) (given n) at.numbered row m' follows here has;
        visited = at.visited;
        waiting = at.waiting;
      } in
      subst (λ (z : Numbers). Underway g m' v z waits') (sym e.0) (subst (λ (z : List ℕ). Underway g m' v n z) (sym e.1) same)

  module _ (fresh : HasNumber n row → ⊥) where
    next : Next n n' row how
    next = (if-fresh fresh).0

    more : vec_len n'.listed ≡ vec_len n.listed + 1
    more = n'.listed.ok.0 ∙ ap length next.listed ∙ length-append (vec_items n.listed) _ ∙ ap (λ (k : ℕ). k + 1) (sym n.listed.ok.0)

    entry_kept : (k : ℕ) → k < vec_len n.listed → entry n' k ≡ entry n k
    entry_kept = kept_before (vec_items n.listed) (vec_items n'.listed) (vec_len n.listed) (record { row = row; mention = how }) blank (sym n.listed.ok.0) next.listed

    entry_last : entry n' (vec_len n.listed) ≡ record { row = row; mention = how }
    entry_last = added_last (vec_items n.listed) (vec_items n'.listed) (vec_len n.listed) (record { row = row; mention = how }) blank (sym n.listed.ok.0) next.listed

    order_kept : (k : ℕ) → k < vec_len n.listed → ord n' k ≡ ord n k
    order_kept k lt = ap (λ (l : Listed). l.row) (entry_kept k lt)

    number_kept : (x : ℕ) → (x ≡ row → ⊥) → num n' x ≡ num n x
    number_kept x ne = ap (λ (l : List ℕ). get_or l x 0) next.number ∙ get_or-set_other (vec_items n.number) row x (vec_len n.listed) 0 ne

    number_last : num n' row ≡ vec_len n.listed
    number_last =
        let short : row < length (vec_items n.number) = omega (arith, n.number.ok.0, n.rows) in
        ap (λ (l : List ℕ). get_or l row 0) next.number ∙ get_or-set_same (vec_items n.number) row (vec_len n.listed) 0 short

    one_more_waits : waits' ≡ drop v (numbered_rows n')
    one_more_waits =
        let fits : v ≤ length (numbered_rows n) = omega (arith, rows_long n, at.visited) in
        (if-fresh fresh).1 ∙ ap (λ (l : List ℕ). l ++ (row ∷ [])) at.waiting ∙ sym (drop-append-le v (numbered_rows n) (row ∷ []) fits)
        ∙ ap (drop v) (sym (map-append (λ (l : Listed). l.row) (vec_items n.listed) _)) ∙ ap (λ (l : List Listed). drop v (map (λ (e : Listed). e.row) l)) (sym next.listed)

    when_fresh : Underway g m' v n' waits'
    when_fresh = record {
      numbered = subst (λ (c : ℕ). NumberedBefore g m' c (ord n') (num n') (given n')) (sym more)
          (extended g m (vec_len n.listed) (ord n) (num n) (given n) at.numbered row row_in fresh m' follows here (ord n') (num n') (given n')
          order_kept (ap (λ (l : Listed). l.row) entry_last) number_kept number_last
          (λ k lt. ap (λ (l : Listed). meaning l.mention) (entry_kept k lt)) (ap (λ (l : Listed). meaning l.mention) entry_last ∙ is));
      visited = omega (arith, more, at.visited);
      waiting = one_more_waits;
    }

  -- the row that m mentions has a number, and waits if it is new
  pub mentioned : Underway g m' v n' waits'
  mentioned = elim (has_or_not n row) [ inl has ↦ when_known has | inr fresh ↦ when_fresh fresh ]

  -- the others keep theirs
  pub order_stays : (k : ℕ) → k < (vec_len n.listed) → ord n' k ≡ ord n k
  order_stays k lt = elim (has_or_not n row) [ inl has ↦ ap (λ (z : Numbers). ord z k) (if-known has).0 | inr fresh ↦ order_kept fresh k lt ]

-- where nothing is mentioned in between
pub on_to : (g : Graph) (m m' : Mention) (v : ℕ) (n : Numbers) (waits : List ℕ) → Underway g m v n waits → ((h : Mention) → Sooner h m → Sooner h m')
    → ((y : ℕ) (l : Mention) → MentionsNode g (vec_len n.listed) (ord n) y l → Sooner l m' → Sooner l m) → Underway g m' v n waits
on_to g m m' v n waits at before none = record {
  numbered = advance g m (vec_len n.listed) (ord n) (num n) (given n) at.numbered m' before none;
  visited = at.visited;
  waiting = at.waiting;
}

-- a number that is read from memory
pub number_read : (n : Numbers) (row k : ℕ) → row < 272 → k ≡ get_or (vec_items n.number) row k → num n row ≡ k
number_read n row k row_in read =
    let short : row < length (vec_items n.number) = omega (arith, n.number.ok.0, n.rows) in
    sym (get_or_read (vec_items n.number) row k short read 0)

-- one turn over the variables
module _ (t : Table) (sound : Sound t) (x : ℕ) (var-in : x < vec_len t.roots) (n : Numbers) (waits : List ℕ) (at : Underway (graph t) (by_variable x) 0 n waits) where
  pub root_free : (room : ℕ) → 272 ≤ room → (HasNumber n ((graph t).root x) → ⊥) → (vec_len n.listed < 272) × (length waits < room)
  root_free room space = free (graph t) (by_variable x) 0 n waits ((graph t).root x) room at sound.rows space (sound.roots_inside x var-in)

  pub root_mentioned : (n' : Numbers) (waits' : List ℕ) → (HasNumber n ((graph t).root x) → (n' ≡ n) × (waits' ≡ waits))
      → ((HasNumber n ((graph t).root x) → ⊥) → Next n n' ((graph t).root x) (Variable x) × (waits' ≡ waits ++ ((graph t).root x ∷ [])))
      → Underway (graph t) (by_variable (x + 1)) 0 n' waits'
  root_mentioned n' waits' =
      mentioned (graph t) (by_variable x) (by_variable (x + 1)) 0 n n' waits waits' ((graph t).root x) (Variable x) at (variable_follows x) refl sound.rows
      (sound.roots_inside x var-in) (var-in, refl)

-- after the variables come the attributes
pub variables_done : (g : Graph) (v : ℕ) (n : Numbers) (waits : List ℕ) → Underway g (by_variable g.vars) v n waits → Underway g (by_attribute 0 0) v n waits
variables_done g v n waits at = on_to g (by_variable g.vars) (by_attribute 0 0) v n waits at before none
  where
    before : (h : Mention) → Sooner h (by_variable g.vars) → Sooner h (by_attribute 0 0)
    before (by_variable x) s = tt
    before (by_attribute i a) s = absurd s

    none : (y : ℕ) (l : Mention) → MentionsNode g (vec_len n.listed) (ord n) y l → Sooner l (by_attribute 0 0) → Sooner l (by_variable g.vars)
    none y (by_variable x) p s = p.0
    none y (by_attribute i a) p (inl s) = absurd (omega arith)
    none y (by_attribute i a) p (inr s) = absurd (omega (arith, s.1))

-- before anything is mentioned
pub nothing_numbered : (g : Graph) (n : Numbers) → vec_items n.listed ≡ [] → Underway g (by_variable 0) 0 n []
nothing_numbered g n none =
    let few : vec_len n.listed ≡ 0 = n.listed.ok.0 ∙ ap length none in
    record {
      numbered = record {
        inside = λ k lt. absurd (omega arith);
        numbered = λ k lt. absurd (omega arith);
        mentioned = λ k lt. absurd (omega arith);
        before = λ k lt. absurd (omega arith);
        rising = λ j k lt in_c. absurd (omega arith);
        all = λ y l p s. absurd (never l s);
      };
      visited = omega arith;
      waiting = ap (λ (l : List Listed). map (λ (e : Listed). e.row) l) (sym none);
    }
  where
    never : (l : Mention) → Sooner l (by_variable 0) → ⊥
    never (by_variable x) s = omega arith
    never (by_attribute i a) s = s

-- the row that waits first is the next to visit
pub record Popped (g : Graph) (m : Mention) (v : ℕ) (n : Numbers) (row : ℕ) (rest : List ℕ) : Type 0 where
  pub in_count : v < (vec_len n.listed)
  pub order : ord n v ≡ row
  pub number : num n row ≡ v
  pub inside : row < g.nodes
  pub others : Underway g m (v + 1) n rest

pub popped : (g : Graph) (m : Mention) (v : ℕ) (n : Numbers) (row : ℕ) (rest : List ℕ) → Underway g m v n (row ∷ rest) → Popped g m v n row rest
popped g m v n row rest at =
    let rows = numbered_rows n in
    let long = waiting_long g m v n (row ∷ rest) at in
    let lt : v < vec_len n.listed = omega arith in
    let fits : v < length rows = omega (arith, rows_long n) in
    let parts : row ∷ rest ≡ get_or rows v 0 ∷ drop (v + 1) rows = at.waiting ∙ drop_more rows v 0 fits in
    let first : row ≡ get_or rows v 0 = cc parts in
    let after : rest ≡ drop (v + 1) rows = cc parts in
    let is : ord n v ≡ row = sym (get_or-map (λ (l : Listed). l.row) (vec_items n.listed) v blank) ∙ sym first in
    record {
      in_count = lt;
      order = is;
      number = ap (num n) (sym is) ∙ at.numbered.numbered v lt;
      inside = subst (λ (z : ℕ). z < g.nodes) is (at.numbered.inside v lt);
      others = record { numbered = at.numbered; visited = omega arith; waiting = after };
    }

-- where no row waits, all were visited
pub drained : (g : Graph) (v : ℕ) (n : Numbers) → Underway g (by_attribute v 0) v n [] → Underway g (by_attribute (vec_len n.listed) 0) (vec_len n.listed) n []
drained g v n at =
    let e : v ≡ (vec_len n.listed) = omega (arith, waiting_long g (by_attribute v 0) v n [] at, at.visited) in
    subst (λ (z : ℕ). Underway g (by_attribute z 0) z n []) e at
