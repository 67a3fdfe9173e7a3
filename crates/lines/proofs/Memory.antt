-- The memory that a responder gives its calls is never too short.
use Rattle.std.proofs.Common.{ℕ, suc, ◌+◌, ◌*◌, ◌≤◌, Bool, true, false, cond, ltb, leb, List, [], ◌∷◌, length, vec_items, Result, sym, ap, subst, arith}
use mathlib.Core.Option.{Option, some, none}
use Rattle.std.proofs.lemmas.Bool.{le-ltb}
use Rattle.std.specs.declared.option.Option as rust
use Rattle.kinds.specs.Atoms.{atoms}
use Rattle.kinds.specs.Meaning.{Meaning}
use Rattle.features.specs.Bytes.{attributes_of}
use Rattle.features.specs.Graphs.{Graph}
use Rattle.features.specs.Holding.{Listed, aparts_of}
use Rattle.features.specs.Listing.{written}
use Rattle.features.specs.Terms as terms
use Rattle.features.proofs.Bytes.{attributes_bound, count_bound, listing_length}
use Rattle.answers.specs.Answers as answers
use Rattle.answers.specs.Answers.{first_refusal, above_31, term_fault, pair_fault, terms_fault, value_fault, full_fault, fault, Right}
use Rattle.answers.specs.Runs.{Has}
use Rattle.answers.specs.declared.refusal.Side.{Side}
use Rattle.answers.specs.declared.refusal.Refusal.{Refusal}
use Rattle.answers.specs.declared.refusal.Refusal.TheVariants.{Undeclared, LongTerm, NoAttribute, NoSuchValue, ShortTrail, ApartsFull}
use Rattle.answers.proofs.Counting.{equally_many_nodes}
use Rattle.notation.specs.Notation.{Command, declare, equals, is, apart, same, value, list}
use Rattle.printing.specs.Texts.{error, refusal_in}
use Rattle.session.specs.Sessions.{graph, kept}
use Rattle.tables.proofs.Known.{sound_known}
use Rattle.lines.specs.Responses.{call_of}
use Rattle.lines.specs.Theorems.{Roomy, MemorySuffices}
use Rattle.lines.specs.declared.responder.Responder.{Responder}

first_roomy : (a b : Option Refusal) → Roomy a → Roomy b → Roomy (first_refusal a b)
first_roomy none b p q = q
first_roomy (some r) b p q = p

cond_roomy : (b : Bool) (x y : Option Refusal) → Roomy x → Roomy y → Roomy (cond b x y)
cond_roomy true x y p q = p
cond_roomy false x y p q = q

above_roomy : (side : Side) (at : ℕ) (path : List ℕ) → Roomy (above_31 side at path)
above_roomy side at [] = tt
above_roomy side at (a ∷ rest) = cond_roomy (ltb 31 a) (some (NoAttribute side at)) (above_31 side (suc at) rest) tt (above_roomy side (suc at) rest)

module _ (vars : ℕ) where
  term_roomy : (side : Side) (t : terms.Term) → Roomy (term_fault vars side t)
  term_roomy side t =
      let long : Option Refusal = cond (leb (length t.path) 8) none (some (LongTerm side)) in
      first_roomy (cond (ltb t.var vars) none (some (Undeclared side))) (first_refusal long (above_31 side 0 t.path))
      (cond_roomy (ltb t.var vars) none (some (Undeclared side)) tt tt)
      (first_roomy long (above_31 side 0 t.path) (cond_roomy (leb (length t.path) 8) none (some (LongTerm side)) tt tt) (above_roomy side 0 t.path))

  pair_roomy : (p q : terms.Term) → Roomy (pair_fault vars p q)
  pair_roomy p q = first_roomy (term_fault vars Side.Left p) (term_fault vars Side.Right q) (term_roomy Side.Left p) (term_roomy Side.Right q)

  terms_roomy : (s : terms.Statement) → Roomy (terms_fault vars s)
  terms_roomy (terms.equals p q) = pair_roomy p q
  terms_roomy (terms.is p v) = term_roomy Side.Left p
  terms_roomy (terms.apart p q) = pair_roomy p q

  module _ (m : Meaning) (said : List terms.Statement) where
    value_roomy : (s : terms.Statement) → Roomy (value_fault m s)
    value_roomy (terms.equals p q) = tt
    value_roomy (terms.is p v) = cond_roomy (m.value v) none (some NoSuchValue) tt tt
    value_roomy (terms.apart p q) = tt

    full_roomy : (s : terms.Statement) → Roomy (full_fault said s)
    full_roomy (terms.equals p q) = tt
    full_roomy (terms.is p v) = tt
    full_roomy (terms.apart p q) = cond_roomy (ltb (length (aparts_of said)) 128) none (some ApartsFull) tt tt

    trail_roomy : (room : ℕ) → 272 ≤ room → Roomy (cond (ltb room 272) (some ShortTrail) none)
    trail_roomy room l = subst (λ (b : Bool). Roomy (cond b (some ShortTrail) none)) (sym (le-ltb room 272 l)) tt

    fault_roomy : (s : terms.Statement) (room : ℕ) → 272 ≤ room → Roomy (fault m vars said s room)
    fault_roomy s room l =
        let trail : Option Refusal = cond (ltb room 272) (some ShortTrail) none in
        first_roomy (terms_fault vars s) (first_refusal (value_fault m s) (first_refusal trail (full_fault said s))) (terms_roomy s)
        (first_roomy (value_fault m s) (first_refusal trail (full_fault said s)) (value_roomy s) (first_roomy trail (full_fault said s) (trail_roomy room l) (full_roomy s)))

    closed_roomy : {before after : List ℕ} {r : Result (Unit {0}) Refusal} → answers.Closed m vars said before r after → Roomy (error r)
    closed_roomy (answers.no_value t f) = tt
    closed_roomy (answers.leaf_branches t e f) = tt
    closed_roomy (answers.not_apart i e l b f) = tt
    closed_roomy (answers.too_many n f) = tt
    closed_roomy (answers.accepted n f) = tt

    declared_roomy : {r : Result ℕ Refusal} → answers.Declared m vars said r → Roomy (error r)
    declared_roomy (answers.no_variable l) = tt
    declared_roomy (answers.no_node l n) = tt
    declared_roomy (answers.numbered l n) = tt

  module _ (m : Meaning) (said : List terms.Statement) where
    stated_roomy : {s : terms.Statement} {before after : List ℕ} {r : Result (Unit {0}) Refusal} → 272 ≤ length before → answers.Stated m vars said s before r after → Roomy (error r)
    stated_roomy {s} {before} l (answers.faulty e) = subst Roomy e (fault_roomy m said s (length before) l)
    stated_roomy {s} l (answers.faultless e closed) = closed_roomy m _ closed

  same_roomy : {said : List terms.Statement} {p q : terms.Term} {r : Result Bool Refusal} → answers.Same vars said p q r → Roomy (error r)
  same_roomy {said} {p} {q} (answers.faulty e) = subst Roomy e (pair_roomy p q)
  same_roomy (answers.one e j) = tt
  same_roomy (answers.not_one e j) = tt

  value_roomy_of : {m : Meaning} {said : List terms.Statement} {p : terms.Term} {r : Result (rust.Option ℕ) Refusal} → answers.Value m vars said p r → Roomy (error r)
  value_roomy_of {p = p} (answers.faulty e) = subst Roomy e (term_roomy Side.Left p)
  value_roomy_of (answers.valued v e j w) = tt
  value_roomy_of (answers.nothing e j) = tt

-- a listing is no longer than its graph allows
length_written : (g : Graph) → g.nodes ≤ 256 → g.vars ≤ 64 → length (written g) ≤ 27016
length_written g l h =
    omega (arith, listing_length g, count_bound (λ n. 8 + 1 + 3 * attributes_of g n) 105 0 g.nodes (λ n a b. omega (arith, attributes_bound g n)))

module _ (s : Responder) (vars : ℕ) (said : List terms.Statement) (has : Has graph kept atoms s.session vars said) where
  listed_bound : (bytes : List ℕ) → Listed atoms vars said bytes → length bytes ≤ 27016
  listed_bound bytes listed =
      let g = listed.graph in
      let own = has.holds in
      let few = s.session.nodes in
      let room = (sound_known s.session.sound).roots in
      let as_many = equally_many_nodes atoms g (graph s.session) (aparts_of said) (kept s.session) vars said listed.holds own in
      let short = length_written g (omega (arith, as_many, few)) (omega (arith, listed.holds.all, own.all, room)) in
      omega (arith, short, ap length listed.bytes_are)

  listing_roomy : {before after : List ℕ} {r : Result ℕ Refusal} → 27016 ≤ length before → answers.Listing atoms vars said before r after → Roomy (error r)
  listing_roomy l (answers.short bytes listed less) = absurd (omega (arith, listed_bound bytes listed))
  listing_roomy l (answers.put bytes listed enough) = tt

  module _ (trail listing : List ℕ) (enough : 272 ≤ length trail) (plenty : 27016 ≤ length listing) where
    right_roomy : (c : Command) {a : answers.Answer} → Right atoms vars said (call_of trail listing c) a → Roomy (refusal_in a)
    right_roomy declare (answers.declared d) = declared_roomy vars atoms said d
    right_roomy (equals p q) (answers.stated d) = stated_roomy vars atoms said enough d
    right_roomy (is p v) (answers.stated d) = stated_roomy vars atoms said enough d
    right_roomy (apart p q) (answers.stated d) = stated_roomy vars atoms said enough d
    right_roomy (same p q) (answers.same d) = same_roomy vars d
    right_roomy (value p) (answers.value d) = value_roomy_of vars d
    right_roomy list (answers.listed d) = listing_roomy plenty d

pub memory_suffices : MemorySuffices
memory_suffices s t c a vars said has step =
    right_roomy s vars said has (vec_items s.trail) (vec_items s.listing) (omega (arith, s.trail.ok.0, s.trail_room)) (omega (arith, s.listing.ok.0, s.listing_room)) c
    (step.right vars said has)
