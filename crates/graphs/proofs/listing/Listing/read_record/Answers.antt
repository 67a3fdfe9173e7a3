use Rattle.std.proofs.Common.{sym, ap, ◌∙◌, arith}
use Rattle.std.proofs.lemmas.Bool.{both_ways}
use Rattle.graphs.specs.Listings.{value_at, start}
use Rattle.graphs.specs.Reading.{LeafBare}
use Rattle.graphs.proofs.Parts.{record_is}
use Rattle.graphs.proofs.listing.Listing.read_record.Goals as goal
use Rattle.graphs.proofs.listing.Listing.read_record.Goals.{else-branches-via-then-branches+else-is_leaf, else-branches-via-else-branches}

pub returns-then-not-is_value : goal.returns-then-not-is_value
returns-then-not-is_value g c =
    let m = g.K.Kind.meaning c.args.self.now.kind.now in
    let t = c.args.self.now.trailer in
    let of = c.args.self.now.counted in
    let is = record_is c.args.self.now.bytes.now c.args.node t.place c.args.rest.now c.in-Some.record.bytes.now of.counted of.place c.requires.begins c.requires.rest c.in-Some.ensures.0 c.in-Some.ensures.1 in
    let value = c.number_at-value.ensures.value ∙ is.value in
    (c.requires.next, is.fits, λ valued. both_ways (m.value (value_at c.args.self.now.bytes.now (start c.args.self.now.bytes.now c.args.node))) (ap m.value (sym value) ∙ sym c.if-not-is_value.ensures) valued)

pub returns-then-not-attributes_rise : goal.returns-then-not-attributes_rise
returns-then-not-attributes_rise g c =
    let m = g.K.Kind.meaning c.args.self.now.kind.now in
    let t = c.args.self.now.trailer in
    let of = c.args.self.now.counted in
    let is = record_is c.args.self.now.bytes.now c.args.node t.place c.args.rest.now c.in-Some.record.bytes.now of.counted of.place c.requires.begins c.requires.rest c.in-Some.ensures.0 c.in-Some.ensures.1 in
    let value = c.number_at-value.ensures.value ∙ is.value in
    (c.requires.next, is.fits, ap m.value (sym value) ∙ sym c.if-not-is_value.ensures, λ rising. c.if-not-attributes_rise.ensures (is.rising_there rising))

pub returns-then-not-targets_inside : goal.returns-then-not-targets_inside
returns-then-not-targets_inside g c =
    let m = g.K.Kind.meaning c.args.self.now.kind.now in
    let t = c.args.self.now.trailer in
    let of = c.args.self.now.counted in
    let is = record_is c.args.self.now.bytes.now c.args.node t.place c.args.rest.now c.in-Some.record.bytes.now of.counted of.place c.requires.begins c.requires.rest c.in-Some.ensures.0 c.in-Some.ensures.1 in
    let value = c.number_at-value.ensures.value ∙ is.value in
    (c.requires.next, is.fits, ap m.value (sym value) ∙ sym c.if-not-is_value.ensures, is.rising_here c.if-not-attributes_rise.ensures, λ targets. c.if-not-targets_inside.ensures (is.targets_there t.nodes of.nodes targets))

pub returns-then-is_leaf : goal.returns-then-is_leaf
returns-then-is_leaf g c =
    let m = g.K.Kind.meaning c.args.self.now.kind.now in
    let t = c.args.self.now.trailer in
    let of = c.args.self.now.counted in
    let is = record_is c.args.self.now.bytes.now c.args.node t.place c.args.rest.now c.in-Some.record.bytes.now of.counted of.place c.requires.begins c.requires.rest c.in-Some.ensures.0 c.in-Some.ensures.1 in
    let value = c.number_at-value.ensures.value ∙ is.value in (
      c.requires.next,
      is.fits,
      ap m.value (sym value) ∙ sym c.if-not-is_value.ensures,
      is.rising_here c.if-not-attributes_rise.ensures,
      is.targets_here t.nodes of.nodes c.if-not-targets_inside.ensures,
      λ bare. omega (arith, bare (ap m.leaf (sym value) ∙ sym c.if-is_leaf.ensures), is.count, c.if-branches.true),
    )

pub returns : goal.returns
returns g c =
    let m = g.K.Kind.meaning c.args.self.now.kind.now in
    let t = c.args.self.now.trailer in
    let of = c.args.self.now.counted in
    let is = record_is c.args.self.now.bytes.now c.args.node t.place c.args.rest.now c.in-Some.record.bytes.now of.counted of.place c.requires.begins c.requires.rest c.in-Some.ensures.0 c.in-Some.ensures.1 in
    let value = c.number_at-value.ensures.value ∙ is.value in
    let bare : LeafBare m c.args.self.now.bytes.now (start c.args.self.now.bytes.now c.args.node) =
    elim c.else-branches.branch [
      | else-branches-via-then-branches+else-is_leaf w ↦ λ leaf. absurd (both_ways (m.leaf (value_at c.args.self.now.bytes.now (start c.args.self.now.bytes.now c.args.node))) (ap m.leaf (sym value) ∙ sym w.is_leaf.ensures ∙ w.if-is_leaf.false) leaf)
      | else-branches-via-else-branches w ↦ λ leaf. omega (arith, w.if-branches, is.count)
    ] in
    (record { fits = is.fits; valued = ap m.value (sym value) ∙ sym c.if-not-is_value.ensures; rising = is.rising_here c.if-not-attributes_rise.ensures; targets = is.targets_here t.nodes of.nodes c.if-not-targets_inside.ensures; bare = bare }, is.bytes)
