use Rattle.tables.proofs.Known.{sound_known}
use Rattle.graphs.proofs.feature_graph.FeatureGraph.write.Goals as goal

pub write-requires : goal.write-requires
write-requires c = sound_known c.args.self.now.sound
