use Rattle.std.proofs.Common.{refl}
use Rattle.tables.proofs.Known.{sound_known}
use Rattle.session.specs.Sessions.{graph, kept}
use Rattle.session.proofs.Listings.{listed_whole, listed_not}
use Rattle.session.proofs.session.Session.list.Goals as goal

pub list-requires : goal.list-requires
list-requires g c = record { sound = sound_known c.args.self.now.sound }

pub write-requires : goal.write-requires
write-requires g c = sound_known c.list.new.self.sound

pub returns-in-Ok : goal.returns-in-Ok
returns-in-Ok g c =
    let s = c.args.self.now in
    let m = g.K.Kind.meaning s.kind in
    let arranged = c.list.ensures m in
    record {
      step = listed_whole graph kept m (g.met.K.Kind.lawful s.kind) s _ c.list.new.self arranged.arranged arranged.stands refl refl c.args.out.now c.write.new.out c.in-Ok.used c.in-Ok.ensures;
      kind = refl;
    }

pub returns-in-Err : goal.returns-in-Err
returns-in-Err g c =
    let s = c.args.self.now in
    let m = g.K.Kind.meaning s.kind in
    let arranged = c.list.ensures m in
    record {
      step = listed_not graph kept m (g.met.K.Kind.lawful s.kind) s _ c.list.new.self arranged.arranged arranged.stands refl refl c.args.out.now c.write.new.out c.in-Err.short.needed c.in-Err.ensures;
      kind = refl;
    }
