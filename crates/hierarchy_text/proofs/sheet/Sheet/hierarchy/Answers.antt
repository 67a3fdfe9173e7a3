use Rattle.std.proofs.Common.{rules}
use Rattle.hierarchy_text.proofs.Grounds.{never_orphaned, mark_named, refused_same}
use Rattle.hierarchy_text.proofs.sheet.Sheet.hierarchy.Goals as goal

pub unreachable-requires-in-Err-Unlinked : goal.unreachable-requires-in-Err-Unlinked
unreachable-requires-in-Err-Unlinked c =
    let unlinked = c.in-Err-Unlinked in
    never_orphaned c.args.self.now.linked (refused_same c.len-count.ensures c.as_slice.ensures.value unlinked.field-0-is unlinked.ensures.filled.0)

pub returns-in-Err-WrongMark : goal.returns-in-Err-WrongMark
returns-in-Err-WrongMark c =
    let sheet = c.args.self.now in let marked = c.in-Err-WrongMark in
    let refused = refused_same c.len-count.ensures c.as_slice.ensures.value marked.field-0-is marked.ensures.filled.0 in
    let named = mark_named _ _ _ _ _ sheet.upward sheet.marked refused in search rules
