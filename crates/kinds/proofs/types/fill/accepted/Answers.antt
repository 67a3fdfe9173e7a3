use Rattle.std.proofs.Common.{◌≡◌, ℕ, ◌<◌, List, length, sym, subst, rules, arith}
use Rattle.kinds.specs.declared.types.links.Link.{Link}
use Rattle.kinds.specs.declared.types.misfit.Misfit.TheVariants.{Unlinked, NoGreatest, WrongMark}
use Rattle.kinds.specs.Hierarchy.{Under, UnderLowest, Astray, Sound, hierarchy}
use Rattle.kinds.specs.Types.{Up, AllLinked, Fault, NoneHas, Least, Refused, Accepted, Described}
use Rattle.kinds.specs.Types.Refused.{orphaned, clashing, mismarked}
use Rattle.kinds.proofs.Filling.{none_not_upward, none_orphan, none_clash, least_clash, least_fault, fault_astray, sound, described}
use Rattle.kinds.proofs.types.fill.accepted.Goals as goal

-- what holds of a count and links holds of those that they are
carried : {m n : ℕ} {k l : List Link} (P : ℕ → List Link → Type 0) → (m ≡ n) × (k ≡ l) → P m k → P n l
carried {m} {n} {k} {l} P e p = subst (λ (x : ℕ). P x l) e.0 (subst (λ (y : List Link). P m y) e.1 p)

pub returns-in_err-links : goal.returns-in_err-links
returns-in_err-links c = let h = c.in_err-links.ensures c.args.marks in search rules

pub returns-in-Some : goal.returns-in-Some
returns-in-Some c =
    let u = c.in_ok-links.links in
    carried (λ n links. Refused n links c.args.marks (Unlinked c.in-Some.t)) c.in_ok-links.ensures
    (orphaned u.counted (none_not_upward u.count u.links.now u.upward) c.in-Some.ensures)

pub returns-in-Some-first_parted : goal.returns-in-Some-first_parted
returns-in-Some-first_parted c =
    let u = c.in_ok-links.links in let n = u.count in let links = u.links.now in
    let order = c.order-order.ensures in let below = c.order-order.result.below.items in
    let long : length below ≡ n = order.count in
    let found = c.in-Some-first_parted.ensures in let a = c.in-Some-first_parted.a in let b = c.in-Some-first_parted.b in
    carried (λ n links. Refused n links c.args.marks (NoGreatest a b)) c.in_ok-links.ensures
    (clashing u.counted (none_not_upward n links u.upward) (none_orphan n links c.in_default.ensures)
    (least_clash n links below u.counted.1 u.upward (λ v t h. order.only v t) order.all a b found.0 (omega arith) found.2
    (λ x y h k l. found.3 x y h k (omega arith)) found.4))

pub returns-in-Some-first_astray : goal.returns-in-Some-first_astray
returns-in-Some-first_astray c =
    let u = c.in_ok-links.links in let n = u.count in let links = u.links.now in
    let order = c.order-order.ensures in let below = c.order-order.result.below.items in
    let long : length below ≡ n = order.count in let meet = c.in_default-first_parted.ensures in
    let t = c.in-Some-first_astray.t in
    let found : Least (Astray n below c.args.marks) t = subst (λ x. Least (Astray x below c.args.marks) t) long c.in-Some-first_astray.ensures in
    carried (λ n links. Refused n links c.args.marks (WrongMark t)) c.in_ok-links.ensures
    (mismarked u.counted (none_not_upward n links u.upward) (none_orphan n links c.in_default.ensures)
    (none_clash n links below u.counted.1 u.upward (λ v t h. order.only v t) order.all (λ x y h k. meet x y h (omega arith)))
    (least_fault n links below u.counted.1 u.upward (λ v t h. order.only v t) order.all u.counted.0 c.in_default.ensures c.args.marks t found))

pub returns : goal.returns
returns c =
    let u = c.in_ok-links.links in let n = u.count in let links = u.links.now in let marks = c.args.marks in
    let order = c.order-order.ensures in let below = c.order-order.result.below.items in
    let long : length below ≡ n = order.count in
    let only : (v t : ℕ) → t < n → Under below v t → Up links v t = λ v t h. order.only v t in
    let meet : (x y : ℕ) → x < y → y < n → UnderLowest below x y = λ x y h k. c.in_default-first_parted.ensures x y h (omega arith) in
    let linked : AllLinked n links = c.in_default.ensures in
    let right : NoneHas (Fault n links marks) =
    λ t f. c.in_default-first_astray.ensures t
    (subst (λ x. Astray x below marks t) (sym long) (fault_astray n links below u.counted.1 u.upward only order.all u.counted.0 linked marks f)) in
    let accepted : Accepted n links marks =
    record {
      counted = u.counted;
      upward = none_not_upward n links u.upward;
      linked = none_orphan n links linked;
      meeting = none_clash n links below u.counted.1 u.upward only order.all meet;
      marked = right;
    } in (
      carried (λ n links. Accepted n links marks) c.in_ok-links.ensures accepted,
      subst (λ x. Sound x below marks) (sym long) (sound n links below u.counted.1 u.upward only order.all u.counted.0 linked marks meet right),
      carried (λ m l. Described m l marks (hierarchy (length below) below marks)) c.in_ok-links.ensures
          (subst (λ x. Described n links marks (hierarchy x below marks)) (sym long)
          (described n links below u.counted.1 u.upward only order.all u.counted.0 linked marks meet right)),
    )
