use Rattle.std.proofs.Common.{◌≡◌, ℕ, List, [], ◌∷◌, ◌++◌, length, Ok, Err, sym, refl, ◌∙◌, subst, vec_len}
use mathlib.Core.Option.{some, none}
use Rattle.std.proofs.lemmas.Result.{err_from_is_err_and}
use Rattle.features.specs.Terms.{Statement, equals}
use Rattle.features.specs.Holding.{Holds}
use Rattle.answers.specs.Answers.{pair_fault, fault, Stated}
use Rattle.tables.specs.declared.table.Table.{Table}
use Rattle.tables.specs.Views as tables
use Rattle.tables.proofs.Known.{sound_known}
use Rattle.terms.specs.Terms.{term_of}
use Rattle.session.specs.Sessions.{graph, kept}
use Rattle.session.proofs.Faults.{faultless_pair}
use Rattle.session.proofs.Judgement.{next_holds}
use Rattle.session.proofs.Statements.{equation_terms, short_trail, long_trail, refused_leaving, ready_after, right_after, accepted_leaving}
use Rattle.session.proofs.session.Session.equals.Goals as goal

pub returns-in_err-check_pair : goal.returns-in_err-check_pair
returns-in_err-check_pair g c =
    let s = c.args.self.now in
    let m = g.K.Kind.meaning s.kind in
    let p = term_of c.args.p in
    let q = term_of c.args.q in
    let room : ℕ = length c.args.trail.now in
    let e = err_from_is_err_and c.from_residual.result c.from_residual.ensures.1 in
    record {
      step = rw (e.1, e.2) (refused_leaving graph kept m (g.met.K.Kind.lawful s.kind) s s refl refl (equals p q) c.args.trail.now c.args.trail.now c.in_err-check_pair.field-0.0
          (λ vars said has. Stated.faulty (equation_terms m vars said room p q (some c.in_err-check_pair.field-0.0) (subst (λ (n : ℕ). pair_fault n p q ≡ some c.in_err-check_pair.field-0.0) has.holds.all c.in_err-check_pair.ensures))));
      kind = refl;
    }

pub returns-then-trail-lt-CAPACITY : goal.returns-then-trail-lt-CAPACITY
returns-then-trail-lt-CAPACITY g c =
    let s = c.args.self.now in
    let m = g.K.Kind.meaning s.kind in
    let p = term_of c.args.p in
    let q = term_of c.args.q in
    let room : ℕ = length c.args.trail.now in
    record {
      step = refused_leaving graph kept m (g.met.K.Kind.lawful s.kind) s s refl refl (equals p q) c.args.trail.now c.args.trail.now _
          (λ vars said has. Stated.faulty (equation_terms m vars said room p q none (subst (λ (n : ℕ). pair_fault n p q ≡ none) has.holds.all c.in_ok-check_pair.ensures) ∙ short_trail m vars said room c.if-trail-lt-CAPACITY.true));
      kind = refl;
    }

pub close_equation-requires : goal.close_equation-requires
close_equation-requires g c =
    let s = c.args.self.now in
    let good = faultless_pair (vec_len s.table.roots) (term_of c.args.p) (term_of c.args.q) c.in_ok-check_pair.ensures in
    record { sound = sound_known s.sound; few = s.nodes; left = good.0; right = good.1 }

pub returns-in_err-judge : goal.returns-in_err-judge
returns-in_err-judge g c =
    let s = c.args.self.now in
    let m = g.K.Kind.meaning s.kind in
    let lawful = g.met.K.Kind.lawful s.kind in
    let p = term_of c.args.p in
    let q = term_of c.args.q in
    let before = c.args.trail.now in
    let terms = c.in_ok-check_pair.ensures in
    let closes = c.close_equation.ensures in
    let e = err_from_is_err_and c.from_residual-in_err-judge.result c.from_residual-in_err-judge.ensures.1 in
    record {
      step = rw (e.1, e.2) (refused_leaving graph kept m lawful s _ refl refl (equals p q) before c.judge.new.trail c.in_err-judge.field-0.0
          (right_after graph kept m lawful s s (equals p q) c.close_equation.new.self closes.arranged before refl (faultless_pair (vec_len s.table.roots) p q terms)
          (λ said. equation_terms m (vec_len s.table.roots) said (length before) p q none terms ∙ long_trail m (vec_len s.table.roots) said (length before) c.if-trail-lt-CAPACITY.false)
          closes.stands (Err c.in_err-judge.field-0.0) c.judge.new.trail c.in_err-judge.ensures.closed));
      kind = refl;
    }

pub returns : goal.returns
returns g c =
    let s = c.args.self.now in
    let m = g.K.Kind.meaning s.kind in
    let lawful = g.met.K.Kind.lawful s.kind in
    let p = term_of c.args.p in
    let q = term_of c.args.q in
    let before = c.args.trail.now in
    let terms = c.in_ok-check_pair.ensures in
    let closes = c.close_equation.ensures in
    let good = faultless_pair (vec_len s.table.roots) p q terms in
    let free : (said : List Statement) → fault m (vec_len s.table.roots) said (equals p q) (length before) ≡ none =
    λ said. equation_terms m (vec_len s.table.roots) said (length before) p q none terms ∙ long_trail m (vec_len s.table.roots) said (length before) c.if-trail-lt-CAPACITY.false in
    record {
      step = accepted_leaving graph kept m lawful s _ (equals p q) before c.judge.new.trail
          (right_after graph kept m lawful s s (equals p q) c.close_equation.new.self closes.arranged before refl good free closes.stands (Ok tt) c.judge.new.trail c.in_ok-judge.ensures.closed)
          (λ vars said has.
          subst (λ (u : Table). Holds m (tables.graph u) (kept s) vars (said ++ (equals p q ∷ []))) (sym c.swap.ensures.x_after)
          (next_holds m lawful c.close_equation.new.self closes.arranged (kept s) vars (said ++ (equals p q ∷ []))
          (ready_after graph kept m lawful s s (equals p q) c.close_equation.new.self closes.arranged before refl good free closes.stands vars said has) before c.in_ok-judge.ensures.fits.1));
      kind = refl;
    }
