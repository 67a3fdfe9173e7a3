use Rattle.std.proofs.Common.{◌≡◌, ℕ, List, [], ◌∷◌, ◌++◌, length, Ok, Err, sym, refl, ◌∙◌, subst, vec_len}
use mathlib.Core.Option.{some, none}
use Rattle.std.proofs.lemmas.Result.{err_from_is_err_and}
use Rattle.features.specs.Terms.{Statement, is}
use Rattle.features.specs.Holding.{Holds}
use Rattle.answers.specs.declared.refusal.Side.{Side}
use Rattle.answers.specs.declared.refusal.Refusal.TheVariants.{NoSuchValue, ShortTrail}
use Rattle.answers.specs.Answers.{term_fault, fault, Stated}
use Rattle.tables.specs.declared.table.Table.{Table}
use Rattle.tables.specs.Views as tables
use Rattle.tables.proofs.Known.{sound_known}
use Rattle.terms.specs.Terms.{term_of}
use Rattle.session.specs.Sessions.{graph, kept}
use Rattle.session.proofs.Faults.{faultless_sound}
use Rattle.session.proofs.Judgement.{next_holds}
use Rattle.session.proofs.Statements.{value_terms, no_value_there, value_there, short_trail, long_trail, refused_leaving, ready_after, right_after, accepted_leaving}
use Rattle.session.proofs.session.Session.is.Goals as goal

pub returns-in_err-check : goal.returns-in_err-check
returns-in_err-check g c =
    let s = c.args.self.now in
    let m = g.K.Kind.meaning s.kind in
    let p = term_of c.args.p in
    let room : ℕ = length c.args.trail.now in
    let r = c.in_err-check.field-0.0 in
    let e = err_from_is_err_and c.from_residual.result c.from_residual.ensures.1 in
    record {
      step = rw (e.1, e.2) (refused_leaving graph kept m (g.met.K.Kind.lawful s.kind) s s refl refl (is p c.args.value) c.args.trail.now c.args.trail.now r
          (λ vars said has. Stated.faulty (value_terms m vars said room p c.args.value (some r) (subst (λ (n : ℕ). term_fault n Side.Left p ≡ some r) has.holds.all c.in_err-check.ensures))));
      kind = refl;
    }

pub returns-then-not-is_value : goal.returns-then-not-is_value
returns-then-not-is_value g c =
    let s = c.args.self.now in
    let m = g.K.Kind.meaning s.kind in
    let p = term_of c.args.p in
    let room : ℕ = length c.args.trail.now in
    record {
      step = refused_leaving graph kept m (g.met.K.Kind.lawful s.kind) s s refl refl (is p c.args.value) c.args.trail.now c.args.trail.now NoSuchValue
          (λ vars said has. Stated.faulty (no_value_there m vars said room p c.args.value (subst (λ (n : ℕ). term_fault n Side.Left p ≡ none) has.holds.all c.in_ok-check.ensures) (sym c.is_value.ensures ∙ c.if-not-is_value.true)));
      kind = refl;
    }

pub returns-then-trail-lt-CAPACITY : goal.returns-then-trail-lt-CAPACITY
returns-then-trail-lt-CAPACITY g c =
    let s = c.args.self.now in
    let m = g.K.Kind.meaning s.kind in
    let p = term_of c.args.p in
    let room : ℕ = length c.args.trail.now in
    record {
      step = refused_leaving graph kept m (g.met.K.Kind.lawful s.kind) s s refl refl (is p c.args.value) c.args.trail.now c.args.trail.now ShortTrail
          (λ vars said has. Stated.faulty (value_there m vars said room p c.args.value (some ShortTrail) (subst (λ (n : ℕ). term_fault n Side.Left p ≡ none) has.holds.all c.in_ok-check.ensures) (sym c.is_value.ensures ∙ c.if-not-is_value.false) (short_trail m vars said room c.if-trail-lt-CAPACITY.true)));
      kind = refl;
    }

pub close_value-requires : goal.close_value-requires
close_value-requires g c =
    let s = c.args.self.now in
    record { sound = sound_known s.sound; few = s.nodes; left = faultless_sound (vec_len s.table.roots) Side.Left (term_of c.args.p) c.in_ok-check.ensures }

pub returns-in_err-judge : goal.returns-in_err-judge
returns-in_err-judge g c =
    let s = c.args.self.now in
    let m = g.K.Kind.meaning s.kind in
    let lawful = g.met.K.Kind.lawful s.kind in
    let p = term_of c.args.p in
    let st = is p c.args.value in
    let before = c.args.trail.now in
    let term = c.in_ok-check.ensures in
    let value = sym c.is_value.ensures ∙ c.if-not-is_value.false in
    let closes = c.close_value.ensures in
    let e = err_from_is_err_and c.from_residual-in_err-judge.result c.from_residual-in_err-judge.ensures.1 in
    record {
      step = rw (e.1, e.2) (refused_leaving graph kept m lawful s _ refl refl st before c.judge.new.trail c.in_err-judge.field-0.0
          (right_after graph kept m lawful s s st c.close_value.new.self closes.arranged before refl (faultless_sound (vec_len s.table.roots) Side.Left p term, value)
          (λ said. value_there m (vec_len s.table.roots) said (length before) p c.args.value none term value (long_trail m (vec_len s.table.roots) said (length before) c.if-trail-lt-CAPACITY.false))
          closes.stands (Err c.in_err-judge.field-0.0) c.judge.new.trail c.in_err-judge.ensures.closed));
      kind = refl;
    }

pub returns : goal.returns
returns g c =
    let s = c.args.self.now in
    let m = g.K.Kind.meaning s.kind in
    let lawful = g.met.K.Kind.lawful s.kind in
    let p = term_of c.args.p in
    let st : Statement = is p c.args.value in
    let before = c.args.trail.now in
    let term = c.in_ok-check.ensures in
    let value = sym c.is_value.ensures ∙ c.if-not-is_value.false in
    let closes = c.close_value.ensures in
    let free : (said : List Statement) → fault m (vec_len s.table.roots) said st (length before) ≡ none =
    λ said. value_there m (vec_len s.table.roots) said (length before) p c.args.value none term value (long_trail m (vec_len s.table.roots) said (length before) c.if-trail-lt-CAPACITY.false) in
    record {
      step = accepted_leaving graph kept m lawful s _ st before c.judge.new.trail
          (right_after graph kept m lawful s s st c.close_value.new.self closes.arranged before refl (faultless_sound (vec_len s.table.roots) Side.Left p term, value) free closes.stands (Ok tt) c.judge.new.trail c.in_ok-judge.ensures.closed)
          (λ vars said has.
          subst (λ (u : Table). Holds m (tables.graph u) (kept s) vars (said ++ (st ∷ []))) (sym c.swap.ensures.x_after)
          (next_holds m lawful c.close_value.new.self closes.arranged (kept s) vars (said ++ (st ∷ []))
          (ready_after graph kept m lawful s s st c.close_value.new.self closes.arranged before refl (faultless_sound (vec_len s.table.roots) Side.Left p term, value) free closes.stands vars said has) before c.in_ok-judge.ensures.fits.1));
      kind = refl;
    }
