-- The graph that a feature graph holds.
use Rattle.features.specs.Graphs.{Graph}
use Rattle.tables.specs.Views.{graph}
use Rattle.graphs.specs.declared.feature_graph.FeatureGraph.{FeatureGraph}

abbrev pub graph_of : FeatureGraph → Graph
graph_of g = graph g.table
