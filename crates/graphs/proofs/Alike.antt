-- Equal graphs are in listing order together, and one listing has one graph.
use Rattle.std.proofs.Common.{ℕ, List, sym, ◌∙◌, arith}
use Rattle.kinds.specs.Meaning.{Meaning}
use Rattle.features.specs.Graphs.{Graph, SameGraph}
use Rattle.features.specs.Order.{InOrder}
use Rattle.features.specs.Numbering.{Mention, by_variable, by_attribute, Mentions, FirstMention, BreadthFirst}
use Rattle.features.proofs.Bytes.{bytes_determine_graph}
use Rattle.features.proofs.Numbering.{breadth_first_in_order, in_order_breadth_first}
use Rattle.features.specs.Bytes.{Written}
use Rattle.graphs.proofs.Whole.{inside_of}

same_back : (g h : Graph) → SameGraph g h → SameGraph h g
same_back g h s = record {
  nodes = sym s.nodes;
  vars = sym s.vars;
  values = λ n l. sym (s.values n (omega (arith, s.nodes)));
  edges = λ n a l. sym (s.edges n a (omega (arith, s.nodes)));
  roots = λ x l. sym (s.roots x (omega (arith, s.vars)));
}

mentions_alike : (g h : Graph) → SameGraph g h → (n : ℕ) (k : Mention) → Mentions g n k → Mentions h n k
mentions_alike g h s n (by_variable x) m = (omega (arith, m.0, s.vars), sym (s.roots x m.0) ∙ m.1)
mentions_alike g h s n (by_attribute i a) m = (omega (arith, m.0, s.nodes), sym (s.edges i a m.0) ∙ m.1)

first_alike : (g h : Graph) → SameGraph g h → (n : ℕ) (k : Mention) → FirstMention g n k → FirstMention h n k
first_alike g h s n k f = record {
  mentions = mentions_alike g h s n k f.mentions;
  none_sooner = λ l m. f.none_sooner l (mentions_alike h g (same_back g h s) n l m);
}

breadth_first_alike : (g h : Graph) → SameGraph g h → BreadthFirst g → BreadthFirst h
breadth_first_alike g h s bf =
    let b = same_back g h s in
    record {
      mentioned = λ n l. let f = bf.mentioned n (omega (arith, s.nodes)) in (f.0, first_alike g h s n f.0 f.1);
      numbered_before = λ n i a l f. bf.numbered_before n i a (omega (arith, s.nodes)) (first_alike h g b n (by_attribute i a) f);
      rising = λ n o k l u v e f. bf.rising n o k l u (omega (arith, s.nodes)) (first_alike h g b n k e) (first_alike h g b o l f);
    }

module _ (m : Meaning) (bs : List ℕ) (g h : Graph) (v : Written m bs g) (w : Written m bs h) where
  pub written_once : SameGraph g h
  written_once = bytes_determine_graph g h v.within w.within (sym v.bytes ∙ w.bytes)

  pub in_order_alike : InOrder g → InOrder h
  in_order_alike order = breadth_first_in_order h (inside_of m bs h w) (breadth_first_alike g h written_once (in_order_breadth_first g (inside_of m bs g v) order))
