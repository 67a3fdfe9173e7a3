-- The listing of what a session holds.
use Rattle.std.proofs.Common.{◌≡◌, ℕ, ◌<◌, true, false, List, length, get_or, Ok, Err, vec_items, Result, sym, refl, subst, arith}
use mathlib.Core.Option.{Option, some, none}
use Rattle.kinds.specs.Meaning.{Meaning, Lawful}
use Rattle.features.specs.Terms.{Term, Statement}
use Rattle.features.specs.Graphs.{Graph}
use Rattle.features.specs.Closing.{Came}
use Rattle.features.specs.Holding.{Holds, Listed, aparts_of}
use Rattle.features.specs.Listing.{written}
use Rattle.features.proofs.Unique.{same_bytes}
use Rattle.growth.specs.Standing.{Stands, Judged, greatest, void}
use Rattle.growth.proofs.Holding.{holding_stands, standing_holds}
use Rattle.tables.specs.Views as tables
use Rattle.numbering.specs.Given.{ord}
use Rattle.listings.specs.Buffers.{Fitted, TooShort}
use Rattle.closing.specs.declared.closer.Closer.{Closer}
use Rattle.closing.specs.Closings.{Arranged, closed_graph, closed_state}
use Rattle.answers.specs.declared.refusal.Refusal.{Refusal}
use Rattle.answers.specs.declared.refusal.Refusal.TheVariants.{ShortBuffer}
use Rattle.answers.specs.Answers.{Listing, short, put, listed, list, lists}
use Rattle.answers.specs.Runs.{asked, Has, Step}
use Rattle.answers.proofs.Keeping.{step_taken}
use Rattle.session.proofs.Judgement.{value_there}

-- what holds has a value on every node, and so has what stands for the same
valued_there : (m : Meaning) (g h : Graph) (state : ℕ → Option ℕ) (kept : List Statement) (vars : ℕ) (said : List Statement) → Holds m g kept vars said → Stands m h state vars said
    → (k : ℕ) → k < h.nodes → state k ≡ none → ⊥
valued_there m g h state kept vars said holds stands k lt e =
    let r = stands.shape.reached k lt in
    let d = holds.joined r.0 r.0 (stands.shape.nothing_else r.0 r.0 k r.1 r.1) in
    judged (state k) (stands.judged r.0 k r.1) e (holds.values r.0 d.0 d.1).0
  where
    judged : {p : Term} {v : ℕ} (o : Option ℕ) → Judged m vars said p o → o ≡ none → ((w : ℕ) → Came m vars said p w → m.below v w ≡ true) → ⊥
    judged (some u) (greatest valued) e under = let z : ◌≡◌ {A = ℕ} 0 1 = cc in omega arith
    judged {v = v} none (void nothing) e under = nothing v under

module _ (m : Meaning) (g : Graph) (kept : List Statement) (c : Closer) (arranged : Arranged c) (vars : ℕ) (said : List Statement) (holds : Holds m g kept vars said)
    (stands : Stands m (closed_graph c) (closed_state c) vars said) where
  -- the bytes of `next` are the listing
  pub next_listed : Listed m vars said (written (tables.graph c.next))
  next_listed = record {
    graph = closed_graph c;
    holds = standing_holds m (closed_graph c) (closed_state c) (aparts_of said) vars said stands
        (λ k lt. value_there (get_or (vec_items c.work.void) (ord c.numbers k) false) ((closed_graph c).value k) (valued_there m g (closed_graph c) (closed_state c) kept vars said holds stands k lt))
        holds.proper refl;
    ordered = arranged.numbered.in_order;
    bytes_are = same_bytes (tables.graph c.next) (closed_graph c) arranged.same;
  }

  pub listing_put : (before after : List ℕ) (n : ℕ) → Fitted (written (tables.graph c.next)) before after n → Listing m vars said before (Ok n) after
  listing_put before after n f =
      subst (λ (k : ℕ). Listing m vars said before (Ok k) after) (sym f.size)
      (subst (λ (l : List ℕ). Listing m vars said before (Ok (length (written (tables.graph c.next)))) l) (sym f.front) (put (written (tables.graph c.next)) next_listed f.enough))

  pub listing_short : (before after : List ℕ) (n : ℕ) → TooShort (written (tables.graph c.next)) before after n → Listing m vars said before (Err (ShortBuffer n)) after
  listing_short before after n f =
      subst (λ (k : ℕ). Listing m vars said before (Err (ShortBuffer k)) after) (sym f.size)
      (subst (λ (l : List ℕ). Listing m vars said before (Err (ShortBuffer (length (written (tables.graph c.next))))) l) (sym f.kept) (short (written (tables.graph c.next)) next_listed f.short))

module _ {S : Type 0} (graph : S → Graph) (kept : S → List Statement) (m : Meaning) (lawful : Lawful m) (s t : S) (c : Closer) (arranged : Arranged c)
    (stands : (said : List Statement) → Stands m (graph s) (λ n. some ((graph s).value n)) (graph s).vars said → Stands m (closed_graph c) (closed_state c) (graph s).vars said)
    (same : graph t ≡ graph s) (same_kept : kept t ≡ kept s) (before after : List ℕ) where
  closed_stands : (vars : ℕ) (said : List Statement) → Has graph kept m s vars said → Stands m (closed_graph c) (closed_state c) vars said
  closed_stands vars said has =
      let all = has.holds.all in
      subst (λ (n : ℕ). Stands m (closed_graph c) (closed_state c) n said) all
      (stands said (subst (λ (n : ℕ). Stands m (graph s) (λ k. some ((graph s).value k)) n said) (sym all) (holding_stands m (graph s) (kept s) vars said has.holds)))

  left_alone : (r : Result ℕ Refusal) → ((vars : ℕ) (said : List Statement) → Has graph kept m s vars said → Listing m vars said before r after) → Step graph kept m s (asked (list before) (lists r after)) t
  left_alone r right =
      step_taken graph kept m lawful s t (list before) (lists r after) (λ vars said has. listed (right vars said has))
      (λ vars said has. subst (λ (h : Graph). Holds m h (kept t) vars said) (sym same) (subst (λ (k : List Statement). Holds m (graph s) k vars said) (sym same_kept) has.holds)) (λ idle. (same, same_kept))

  pub listed_whole : (n : ℕ) → Fitted (written (tables.graph c.next)) before after n → Step graph kept m s (asked (list before) (lists (Ok n) after)) t
  listed_whole n f = left_alone (Ok n) (λ vars said has. listing_put m (graph s) (kept s) c arranged vars said has.holds (closed_stands vars said has) before after n f)

  pub listed_not : (n : ℕ) → TooShort (written (tables.graph c.next)) before after n → Step graph kept m s (asked (list before) (lists (Err (ShortBuffer n)) after)) t
  listed_not n f = left_alone (Err (ShortBuffer n)) (λ vars said has. listing_short m (graph s) (kept s) c arranged vars said has.holds (closed_stands vars said has) before after n f)
