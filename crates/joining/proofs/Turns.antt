-- The turns of the loop that joins two rows of a workspace.
use Rattle.std.proofs.Common.{◌≡◌, ℕ, suc, ◌+◌, ◌*◌, ◌<◌, ◌≤◌, Bool, false, cond, List, [], ◌∷◌, length, get_or, vec_items, vec_len, sym, refl, ap, ◌∙◌, subst, ap₂, arith}
use mathlib.Core.Option.{some, none}
use Rattle.std.proofs.lemmas.List.{get_or_read}
use Rattle.kinds.specs.Meaning.{Meaning, Lawful}
use Rattle.growth.specs.Joins.{Representatives}
use Rattle.tables.specs.Views.{graph, Sound}
use Rattle.tables.proofs.Known.{sound_known}
use Rattle.joining.specs.declared.workspace.Pair.{Pair}
use Rattle.joining.specs.declared.workspace.Workspace.{Workspace}
use Rattle.joining.specs.Uniting.{Takes, Relabels, Meeting, representatives}
use Rattle.joining.specs.Workspaces.{rep, state, Waits, Valued, SameTable, Resolved}
use Rattle.joining.proofs.Closing.{Underway, begun, passed_over, united, represented}
use Rattle.joining.proofs.Steps.{relabels_fewer, first_waits, rest_waits, first_or_rest, one_waits, none_waits, all_represent, some_represents, one_less_represents}

-- a read of the representative of a row
read_rep : (w : Workspace) (x y : ℕ) → x < vec_len w.class → y ≡ get_or (vec_items w.class) x y → rep w x ≡ y
read_rep w x y l e = let long = w.class.ok.0 in sym (get_or_read (vec_items w.class) x y (omega arith) e 0)

-- two rows of w₀ are being joined in w; the pairs wait in a queue with room for so many
pub record Midway (m : Meaning) (left right : ℕ) (w₀ w : Workspace) (pairs : List Pair) (room : ℕ) : Type 0 where
  pub underway : Underway m left right (graph w₀.table) (state w₀) (rep w) (graph w.table).edge (state w) (Waits pairs)
  pub same : SameTable w₀.table w.table
  pub short : length pairs ≤ 1 + 32 * w.joins
  pub counted : w.joins + representatives (rep w) (vec_len w₀.table.rows) ≡ vec_len w₀.table.rows
  pub enough : 8705 ≤ room

pub midway_begun : (m : Meaning) → Lawful m → (left right : ℕ) (w : Workspace) → ((x : ℕ) → x < vec_len w.table.rows → rep w x ≡ x)
    → left < vec_len w.table.rows → right < vec_len w.table.rows → (pairs : List Pair) → pairs ≡ record { left = left; right = right } ∷ [] → w.joins ≡ 0
    → (room : ℕ) → 8705 ≤ room → Midway m left right w w pairs room
midway_begun m lawful left right w own ll lr pairs e none_yet room most = record {
  underway =
      begun m lawful left right (graph w.table) (state w) (sound_known w.sound).edges_inside ll lr (rep w) own (Waits pairs)
      (first_waits pairs [] (record { left = left; right = right }) e) (one_waits pairs left right e);
  same = record { used = refl; roots = refl };
  short = omega (arith, ap length e);
  counted = omega (arith, all_represent (rep w) (vec_len w.table.rows) own);
  enough = most;
}

-- the pair p has waited longest
module _ {m : Meaning} {left right : ℕ} {w₀ w : Workspace} {before after : List Pair} {p : Pair} {room : ℕ}
    (now : Midway m left right w₀ w before room) (pop : before ≡ p ∷ after) where
  sound₀ : Sound w₀.table
  sound₀ = sound_known w₀.sound

  left_used : p.left < vec_len w₀.table.rows
  left_used = (now.underway.waiting p.left p.right (first_waits before after p pop)).0

  right_used : p.right < vec_len w₀.table.rows
  right_used = (now.underway.waiting p.left p.right (first_waits before after p pop)).1

  pub left_row : p.left < vec_len w.class
  left_row = omega (arith, left_used, sound₀.rows, w.classes)

  pub right_row : p.right < vec_len w.class
  right_row = omega (arith, right_used, sound₀.rows, w.classes)

  -- the two have one representative
  pub skipped : {to from : ℕ} → to ≡ get_or (vec_items w.class) p.left to → from ≡ get_or (vec_items w.class) p.right from → to ≡ from
      → (popped : ℕ) → popped ≡ room → Midway m left right w₀ w after popped
  skipped {to} {from} read_to read_from e popped as-much = record {
    underway =
        passed_over m left right (graph w₀.table) (state w₀) (rep w) (graph w.table).edge (state w) (Waits before) (Waits after) p.left p.right
        (first_waits before after p pop) (rest_waits before after p pop) (first_or_rest before after p pop) now.underway
        (read_rep w p.left to left_row read_to ∙ e ∙ sym (read_rep w p.right from right_row read_from));
    same = now.same;
    short = omega (arith, ap length pop, now.short);
    counted = now.counted;
    enough = omega (arith, now.enough);
  }

  pub skipped_lighter : (r : ℕ) → length after + 33 * r < length before + 33 * r
  skipped_lighter r = omega (arith, ap length pop)

  -- they have two
  module _ {to from : ℕ} (read_to : to ≡ get_or (vec_items w.class) p.left to) (read_from : from ≡ get_or (vec_items w.class) p.right from) (two : to ≡ from → ⊥) where
    at_to : rep w p.left ≡ to
    at_to = read_rep w p.left to left_row read_to

    at_from : rep w p.right ≡ from
    at_from = read_rep w p.right from right_row read_from

    to_used : to < vec_len w₀.table.rows
    to_used = subst (λ (z : ℕ). z < vec_len w₀.table.rows) at_to (now.underway.inside p.left left_used)

    from_used : from < vec_len w₀.table.rows
    from_used = subst (λ (z : ℕ). z < vec_len w₀.table.rows) at_from (now.underway.inside p.right right_used)

    to_itself : rep w to ≡ to
    to_itself = subst (λ (z : ℕ). rep w z ≡ z) at_to (now.underway.itself p.left left_used)

    from_itself : rep w from ≡ from
    from_itself = subst (λ (z : ℕ). rep w z ≡ z) at_from (now.underway.itself p.right right_used)

    pub to_row : to < vec_len w.table.rows
    to_row = omega (arith, to_used, now.same.used)

    pub from_row : from < vec_len w.table.rows
    from_row = omega (arith, from_used, now.same.used)

    pub few : w.joins < 272
    few = omega (arith, some_represents (rep w) (vec_len w₀.table.rows) to to_used to_itself, now.counted, sound₀.rows)

    pub space : (popped : ℕ) → popped ≡ room → length after + 32 ≤ popped
    space popped as-much = omega (arith, few, now.short, now.enough, ap length pop)

    module _ (w' : Workspace) (relabels : Relabels 272 (rep w) to from (rep w')) where
      within : Relabels (vec_len w₀.table.rows) (rep w) to from (rep w')
      within = relabels_fewer 272 (vec_len w₀.table.rows) (rep w) (rep w') to from sound₀.rows relabels

      fewer : representatives (rep w) (vec_len w₀.table.rows) ≡ suc (representatives (rep w') (vec_len w₀.table.rows))
      fewer = one_less_represents (vec_len w₀.table.rows) (rep w) (rep w') to from from_used to_itself from_itself two within

      pub joined : Lawful m → (after' : List Pair) → length after' ≤ length after + 32 → (room' : ℕ) → room' ≡ room → Meeting m (state w) to from (state w')
          → Takes (graph w.table).edge (Waits after) to from (graph w'.table).edge (Waits after') → SameTable w.table w'.table → w'.joins ≡ w.joins + 1
          → Midway m left right w₀ w' after' room'
      joined lawful after' longer room' kept meeting takes same joins = record {
        underway =
            united m left right (graph w₀.table) (state w₀) (rep w) (graph w.table).edge (state w) (Waits before) (Waits after) p.left p.right
            (first_waits before after p pop) (rest_waits before after p pop) (first_or_rest before after p pop) now.underway lawful sound₀.edges_inside
            to from at_to at_from two (rep w') (graph w'.table).edge (state w') (Waits after') within takes meeting;
        same = record { used = same.used ∙ now.same.used; roots = same.roots ∙ now.same.roots };
        short = omega (arith, now.short, ap length pop);
        counted = omega (arith, now.counted, fewer);
        enough = omega (arith, now.enough);
      }

      pub joined_lighter : (after' : List Pair) → length after' ≤ length after + 32 → length after' + 33 * representatives (rep w') (vec_len w₀.table.rows) < length before + 33 * representatives (rep w) (vec_len w₀.table.rows)
      joined_lighter after' longer = omega (arith, fewer, ap length pop)

module _ {m : Meaning} {left right : ℕ} {w₀ w : Workspace} {pairs : List Pair} {room : ℕ} (now : Midway m left right w₀ w pairs room) where
  pub rep_used : (x : ℕ) → x < vec_len w.table.rows → rep w x < vec_len w.table.rows
  rep_used x l = let i = now.underway.inside x (omega (arith, now.same.used)) in omega (arith, now.same.used)

  -- nothing waits any more
  module _ {w' : Workspace} (empty : pairs ≡ []) (resolved : Resolved w w') where
    same_rep : rep w' ≡ rep w
    same_rep = ap (λ v x. get_or (vec_items v) x 0) resolved.classes

    same_state : (r : ℕ) → state w' r ≡ state w r
    same_state r = ap₂ (λ (b : Bool) (v : ℕ). cond b none (some v)) (ap (λ v. get_or (vec_items v) r false) resolved.voids) (resolved.values r)

    pub settled : Valued m w₀ → Representatives m left right (graph w₀.table) (state w₀) (rep w') (graph w'.table) (state w')
    settled values =
        subst (λ (f : ℕ → ℕ). Representatives m left right (graph w₀.table) (state w₀) f (graph w'.table) (state w')) (sym same_rep)
        (represented m left right (graph w₀.table) (state w₀) (rep w) (graph w.table).edge (state w) (Waits pairs) (none_waits pairs empty) now.underway
        (graph w'.table) (resolved.used ∙ now.same.used) (resolved.vars ∙ ap vec_len now.same.roots)
        (λ x l. resolved.roots x (omega (arith, ap vec_len now.same.roots)) ∙ ap (rep w) (ap (λ v. get_or (vec_items v) x 0) now.same.roots))
        (λ r a l. resolved.edges r a (omega (arith, now.same.used))) (state w') same_state values)

    pub settled_count : w'.joins + representatives (rep w') (vec_len w₀.table.rows) ≡ vec_len w₀.table.rows
    settled_count = omega (arith, resolved.joins, now.counted, ap (λ (f : ℕ → ℕ). representatives f (vec_len w₀.table.rows)) same_rep)
