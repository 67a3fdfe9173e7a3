use Rattle.std.proofs.Common.{◌≡◌, ◌+◌, vec_items, get_or, sym, ap, ◌∙◌, subst, arith, rules}
use Rattle.std.proofs.lemmas.List.{get_or_read}
use Rattle.hierarchy_text.specs.declared.entry.Entry.{Entry}
use Rattle.hierarchy_text.specs.Sheets.{Marked}
use Rattle.hierarchy_text.proofs.Marking.{marked_none, marked_skip, marked_more}
use Rattle.hierarchy_text.proofs.entries.Entries.leaf_marks.Goals as goal
use Rattle.hierarchy_text.proofs.entries.Entries.leaf_marks.Goals.{then-entry, else-entry}

pub loop-t-init : goal.loop-t-init
loop-t-init c = marked_none (vec_items c.args.self.now.list)

pub loop-t-preserved : goal.loop-t-preserved
loop-t-preserved c =
    let es = vec_items c.args.self.now.list in let i = c.loop-t.t in
    let read : (d : Entry) → (get_or es i d).leaf ≡ c.entry-item.result.leaf =
    λ d. sym (ap (λ (e : Entry). e.leaf) (get_or_read es i c.entry-item.result (omega arith) (search rules) d)) in
    elim c.if-entry.branch [
      | then-entry w ↦ subst (λ x. Marked es (i + 1) x) (sym w.marks-is)
          (marked_more es i c.loop-t.marks c.loop-t.invariant (omega arith) (λ d. read d ∙ w.if-entry.true))
      | else-entry w ↦ subst (λ x. Marked es (i + 1) x) (sym w.marks-is)
          (marked_skip es i c.loop-t.marks c.loop-t.invariant (λ d. read d ∙ w.if-entry.false))
    ]
