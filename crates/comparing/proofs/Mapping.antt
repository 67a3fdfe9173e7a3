-- Images placed mention by mention: they follow the mentions, and every map gives them.
use Rattle.std.proofs.Common.{◌≡◌, ℕ, ◌<◌, ◌≤◌, true, ◌⊎◌, List, get_or, sym, refl, ap, ◌∙◌, subst, inl, inr, arith}
use mathlib.Core.Logic.{∥∥₁_elim}
use native.Mathlib.Bridge.{le_prop}
use mathlib.Core.Option.{some}
use native.Mathlib.Decide.{dec_lt}
use Rattle.kinds.specs.Meaning.{Meaning}
use Rattle.features.specs.Graphs.{Graph, Map}
use Rattle.features.specs.Numbering.{Mention, by_variable, by_attribute, Mentions, Sooner, BreadthFirst}
use Rattle.features.proofs.Numbering.{GivenBefore}
use Rattle.graphs.specs.Mentioned.{NumberedUpTo, WithMention}
use Rattle.graphs.proofs.Numbering.{Next, mentioned_once, numbered_none}
use Rattle.graphs.proofs.Visiting.{numbered_with}
use Rattle.comparing.specs.Images.{Follows, MappedUpTo}

-- what has the mention c mentions w in h
abbrev pub Led : Graph → List ℕ → ℕ → Mention → ℕ → Type 0
Led h images next (by_variable x) w = h.root x ≡ w
Led h images next (by_attribute i a) w = (i < next) × (h.edge (get_or images i 0) a ≡ some w)

module _ (g h : Graph) where
  pub mapped_none : (images : List ℕ) → MappedUpTo g h (by_variable 0) 0 images
  mapped_none images = record {
    numbered = numbered_none g;
    givers = λ i a n m s. absurd s;
    inside = λ n l. absurd (omega arith);
    followed = λ k n m s. absurd (never k s);
    forced = λ m f map n l. absurd (omega arith);
  }
    where
      never : (k : Mention) → Sooner k (by_variable 0) → ⊥
      never (by_variable x) s = omega arith
      never (by_attribute i a) s = s

  -- over mentions that are none
  pub mapped_past : (c d : Mention) (next : ℕ) (images : List ℕ) → ((n : ℕ) (k : Mention) → Mentions g n k → Sooner k d → Sooner k c) → NumberedUpTo g d next → MappedUpTo g h c next images → MappedUpTo g h d next images
  mapped_past c d next images back numbered s = record {
    numbered = numbered;
    givers = λ i a n m l. s.givers i a n m (back n (by_attribute i a) m l);
    inside = s.inside;
    followed = λ k n m l. s.followed k n m (back n k m l);
    forced = s.forced;
  }

  module _ (c d : Mention) (n next r w : ℕ) (images images' : List ℕ) (here : Mentions g n c) (before : n ≡ next → GivenBefore next c) (step : Next g c d) (new : WithMention next n r)
      (same : (k : ℕ) → k < next → get_or images' k 0 ≡ get_or images k 0) (put : get_or images' n 0 ≡ w) (w_in : w < h.nodes) (led : Led h images next c w)
      (all-maps : (m : Meaning) (f : ℕ → ℕ) → Map m g h f → f n ≡ w) (s : MappedUpTo g h c next images) where
    -- a node that has its image is an old one or n
    by_node : (P : ℕ → Type 0) → ((o : ℕ) → o < next → P o) → P n → (o : ℕ) → o < r → P o
    by_node P old at o l = pick new (dec_lt o next)
      where
        pick : WithMention next n r → Dec (o < next) → P o
        pick v (yes h) = old o h
        pick (inl v) (no h) = absurd (omega (arith, v.1))
        pick (inr v) (no h) = subst P (omega (arith, v.0, v.1)) at

    grows : next ≤ r
    grows = pick new
      where
        pick : WithMention next n r → next ≤ r
        pick (inl v) = omega (arith, v.1)
        pick (inr v) = omega (arith, v.1)

    follows_old : (k : Mention) (o : ℕ) → Mentions g o k → Sooner k c → Follows h images' k o
    follows_old (by_variable x) o m l = same o (s.numbered.mentioned o (by_variable x) m l) ∙ s.followed (by_variable x) o m l
    follows_old (by_attribute i a) o m l =
        ap (λ (z : ℕ). h.edge z a) (same i (s.givers i a o m l)) ∙ s.followed (by_attribute i a) o m l ∙ ap some (sym (same o (s.numbered.mentioned o (by_attribute i a) m l)))

    follows_new : (k : Mention) → Led h images next k w → Follows h images' k n
    follows_new (by_variable x) e = put ∙ sym e
    follows_new (by_attribute i a) e = ap (λ (z : ℕ). h.edge z a) (same i e.0) ∙ e.1 ∙ ap some (sym put)

    giver_new : (k : Mention) → Led h images next k w → (i a : ℕ) → by_attribute i a ≡ k → i < next
    giver_new (by_variable x) e i a q = let z : ◌≡◌ {A = ℕ} 0 1 = cc in absurd (omega arith)
    giver_new (by_attribute j b) e i a q = let z : i ≡ j = cc in omega (arith, e.0)

    pub mapped_more : MappedUpTo g h d r images'
    mapped_more = record {
      numbered = numbered_with g c d n next r here before step new s.numbered;
      givers = λ i a o m l. giver i a o m (step.between o (by_attribute i a) m l);
      inside = by_node (λ o. get_or images' o 0 < h.nodes) (λ o l. subst (λ (z : ℕ). z < h.nodes) (sym (same o l)) (s.inside o l)) (subst (λ (z : ℕ). z < h.nodes) (sym put) w_in);
      followed = λ k o m l. follow k o m (step.between o k m l);
      forced = λ m f map. by_node (λ o. f o ≡ get_or images' o 0) (λ o l. s.forced m f map o l ∙ sym (same o l)) (all-maps m f map ∙ sym put);
    }
      where
        giver : (i a o : ℕ) → Mentions g o (by_attribute i a) → Sooner (by_attribute i a) c ⊎ (by_attribute i a ≡ c) → i < r
        giver i a o m (inl l) = let z = s.givers i a o m l in omega (arith, grows)
        giver i a o m (inr e) = let z = giver_new c led i a e in omega (arith, grows)

        follow : (k : Mention) (o : ℕ) → Mentions g o k → Sooner k c ⊎ (k ≡ c) → Follows h images' k o
        follow k o m (inl l) = follows_old k o m l
        follow k o m (inr e) =
            let q = mentioned_once g n o c here (subst (λ (z : Mention). Mentions g o z) e m) in
            subst (λ (z : ℕ). Follows h images' k z) q (subst (λ (z : Mention). Follows h images' z n) (sym e) (follows_new c led))

  -- every map gives the mentioned node the mentioned image
  pub led_by_root : (x : ℕ) → x < g.vars → (m : Meaning) (f : ℕ → ℕ) → Map m g h f → f (g.root x) ≡ h.root x
  led_by_root x l m f map = map.roots x l

  pub led_by_edge : (i a t w next : ℕ) (images : List ℕ) → i < g.nodes → i < next → g.edge i a ≡ some t → h.edge (get_or images i 0) a ≡ some w → ((m : Meaning) (f : ℕ → ℕ) → Map m g h f → (n : ℕ) → n < next → f n ≡ get_or images n 0) → (m : Meaning) (f : ℕ → ℕ) → Map m g h f → f t ≡ w
  led_by_edge i a t w next images inside l e d forced m f map =
      let q = sym (map.edges i a t inside e) ∙ ap (λ (z : ℕ). h.edge z a) (forced m f map i l) ∙ d in
      cc

  -- at the end the images are a map
  pub images_map : (m : Meaning) (next : ℕ) (images : List ℕ) → g.vars ≤ h.vars → g.nodes ≤ next → ((n : ℕ) → n < g.nodes → m.below (h.value (get_or images n 0)) (g.value n) ≡ true) → MappedUpTo g h (by_attribute g.nodes 0) next images → Map m g h (λ n. get_or images n 0)
  images_map m next images enough all below s = record {
    enough = enough;
    inside = λ n l. s.inside n (omega arith);
    roots = λ x l. s.followed (by_variable x) (g.root x) (l, refl) tt;
    edges = λ n a t l e. s.followed (by_attribute n a) t (l, e) (inl l);
    values = below;
  }

-- what follows from the order of the numbers, whichever way that is known
pub at_most : (next n : ℕ) (g : Graph) → ∥ BreadthFirst g ∥₁ → (BreadthFirst g → next < n → ⊥) → n ≤ next
at_most next n g known never = ∥∥₁_elim known le_prop (λ bf. pick (dec_lt next n) (never bf))
  where
    pick : Dec (next < n) → (next < n → ⊥) → n ≤ next
    pick (yes l) no_more = absurd (no_more l)
    pick (no l) no_more = omega arith
