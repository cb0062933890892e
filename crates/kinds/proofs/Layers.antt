-- Layers of bars put into a deck one by one.
use Rattle.std.proofs.Common.{◌≡◌, ℕ, zero, suc, ◌+◌, ◌*◌, ◌^◌, ◌<◌, ◌≤◌, cond, eqb, List, [], ◌∷◌, ◌++◌, length, get_or, take, set, sym, refl, ap, ◌∙◌, subst, ⊎_elim, le_of_suc-le-suc, not-suc-le-zero, arith, length-set, eq-eqb, ne_eqb}
use mathlib.Core.Path.{fun_ext}
use Rattle.std.proofs.lemmas.List.{take_more, take_all, get_or-set_other}
use Rattle.section.specs.declared.block.Block.{Block}
use Rattle.section.specs.Strips.{◌⊕◌}
use Rattle.section.specs.Sums.{le_or_lt}
use Rattle.section.specs.Blocks.{block_strip, strips, stacked, stacked_total}
use Rattle.section.specs.BlockLaws.{block_before, block_within, block_past, block_none}
use Rattle.section.proofs.Stacks.{stacked-set, total-set}
use Rattle.kinds.specs.declared.slab.Slab.{Slab}
use Rattle.kinds.specs.declared.bar_layer.BarLayer.{BarLayer}
use Rattle.kinds.specs.Decks.{slab_force, slab_strip, layer_force, layer_strip, layers_strip, layers_force, SlabFits, LayerFits, LayersFit, DeckFits}

-- a block of no strips
pub hollow : (b : Block) → b.height ≡ 0 → (i : ℕ) → strips b i ≡ 0
hollow b e i = block_none b.top b.height b.strength e i

hollow_total : (b : Block) → b.height ≡ 0 → b.strength * b.height ≡ 0
hollow_total b e = rw e (omega arith)

-- a block of one strip
one_strip : (top w i : ℕ) → block_strip top 1 w i ≡ cond (eqb i top) w 0
one_strip top w i =
    ⊎_elim
    (λ l. ⊎_elim
    (λ g. block_past top 1 w i g ∙ sym (ap (λ b. cond b w 0) (ne_eqb i top (λ e. omega arith))))
    (λ g. block_within top 1 w i l g ∙ sym (ap (λ b. cond b w 0) (eq-eqb i top (omega arith))))
    (le_or_lt (top + 1) i))
    (λ l. block_before top 1 w i l ∙ sym (ap (λ b. cond b w 0) (ne_eqb i top (λ e. omega arith))))
    (le_or_lt top i)

-- one layer more
fit_push : (ls : List BarLayer) (l : BarLayer) → LayersFit ls → LayerFits l → LayersFit (ls ++ (l ∷ []))
fit_push [] l f h = (h, tt)
fit_push (x ∷ xs) l f h = (f.0, fit_push xs l f.1 h)

strip_push : (ls : List BarLayer) (l : BarLayer) (i : ℕ) → layers_strip (ls ++ (l ∷ [])) i ≡ layers_strip ls i + layer_strip l i
strip_push [] l i = omega arith
strip_push (x ∷ xs) l i = let r = strip_push xs l i in omega arith

force_push : (ls : List BarLayer) (l : BarLayer) → layers_force (ls ++ (l ∷ [])) ≡ layers_force ls + layer_force l
force_push [] l = omega arith
force_push (x ∷ xs) l = let r = force_push xs l in omega arith

-- each of layers that fit
pub fit_at : (ls : List BarLayer) (i : ℕ) (d : BarLayer) → i < length ls → LayersFit ls → LayerFits (get_or ls i d)
fit_at [] i d h f = absurd (not-suc-le-zero h)
fit_at (x ∷ xs) zero d h f = f.0
fit_at (x ∷ xs) (suc i) d h f = fit_at xs i d (le_of_suc-le-suc h) f.1

force_at : (ls : List BarLayer) (i : ℕ) (d : BarLayer) → i < length ls → layer_force (get_or ls i d) ≤ layers_force ls
force_at [] i d h = absurd (not-suc-le-zero h)
force_at (x ∷ xs) zero d h = omega arith
force_at (x ∷ xs) (suc i) d h = let r = force_at xs i d (le_of_suc-le-suc h) in omega arith

pub light_at : (s : Slab) (ls : List BarLayer) (i : ℕ) (d : BarLayer) → i < length ls → DeckFits s ls → layer_force (get_or ls i d) ≤ 2 ^ 36
light_at s ls i d h f = omega (arith, force_at ls i d h, f.light)

-- the first n layers stand in the first blocks, and the other blocks have no strips
pub record Put (ls : List BarLayer) (start : ℕ) (n : ℕ) (bars : List Block) (total : ℕ) : Type 0 where
  pub long : length bars ≡ 6
  pub fit : LayersFit (take n ls)
  pub strips_are : (i : ℕ) → stacked bars i ≡ layers_strip (take n ls) i
  pub force_is : stacked_total bars ≡ layers_force (take n ls)
  pub total_is : total ≡ start + layers_force (take n ls)
  pub small : total ≤ start + n * 2 ^ 36
  pub rest : (m : ℕ) → n ≤ m → (d : Block) → d.height ≡ 0 → (get_or bars m d).height ≡ 0

abbrev Hollow : List Block → Type 0
Hollow [] = Unit {0}
Hollow (b ∷ bs) = (b.height ≡ 0) × Hollow bs

all : (bs : List Block) → Hollow bs → (m : ℕ) (d : Block) → d.height ≡ 0 → (get_or bs m d).height ≡ 0
all [] h m d e = e
all (b ∷ bs) h zero d e = h.0
all (b ∷ bs) h (suc m) d e = all bs h.1 m d e

pub put_none : (ls : List BarLayer) (start : ℕ) (b : Block) → b.height ≡ 0 → Put ls start 0 (b ∷ b ∷ b ∷ b ∷ b ∷ b ∷ []) start
put_none ls start b e =
    let t = hollow_total b e in
    record {
      long = refl;
      fit = tt;
      strips_are = λ i. let h = hollow b e i in omega arith;
      force_is = omega arith;
      total_is = omega arith;
      small = omega arith;
      rest = λ m l d h. all (b ∷ b ∷ b ∷ b ∷ b ∷ b ∷ []) (e, (e, (e, (e, (e, (e, tt)))))) m d h;
    }

pub put_more : (ls : List BarLayer) (start n : ℕ) (bars : List Block) (total : ℕ) (x : BarLayer) (b d : Block) → d.height ≡ 0 → Put ls start n bars total → n < length ls → n < 6 →
    LayerFits (get_or ls n x) × (b.top ≡ (get_or ls n x).strip) × (b.height ≡ 1) × (b.strength ≡ layer_force (get_or ls n x)) → Put ls start (n + 1) (set bars n b) (total + b.strength * b.height)
put_more ls start n bars total x b d hollow-d p short few made =
    let l : BarLayer = get_or ls n x in
    let next : take (n + 1) ls ≡ take n ls ++ (l ∷ []) = take_more ls n x short in
    let room : n < length bars = omega (arith, p.long) in
    let old = p.rest n (omega arith) d hollow-d in
    let w : b.strength * b.height ≡ layer_force l = ap (λ h. b.strength * h) made.2 ∙ (let q : b.strength * 1 ≡ b.strength = omega arith in q) ∙ made.3 in
    let one : (i : ℕ) → strips b i ≡ layer_strip l i = λ i. rw (made.1, made.2, made.3) (one_strip l.strip (layer_force l) i) in
    let light = b.light in
    record {
      long = length-set bars n b ∙ p.long;
      fit = rw next (fit_push (take n ls) l p.fit made.0);
      strips_are = λ i. rw next (omega (arith, stacked-set bars n b d i room, hollow (get_or bars n d) old i, one i, p.strips_are i, strip_push (take n ls) l i));
      force_is = rw next (omega (arith, total-set bars n b d room, hollow_total (get_or bars n d) old, p.force_is, force_push (take n ls) l));
      total_is = rw next (omega (arith, p.total_is, force_push (take n ls) l));
      small = omega (arith, p.small);
      rest = λ m g e h. ap (λ (x : Block). x.height) (get_or-set_other bars n m b e (λ q. omega arith)) ∙ p.rest m (omega arith) e h;
    }

-- all layers put
module _ (s : Slab) (ls : List BarLayer) (b : Block) (made : SlabFits s × (b.top ≡ s.top) × (b.height ≡ s.height) × (b.strength ≡ slab_force s))
    (n : ℕ) (bars : List Block) (total : ℕ) (p : Put ls (b.strength * b.height) n bars total) (all-put : length ls ≤ n) where
  whole : take n ls ≡ ls
  whole = take_all n ls all-put

  slab-total : b.strength * b.height ≡ slab_force s * s.height
  slab-total = rw (made.2, made.3)

  total_of : total ≡ slab_force s * s.height + layers_force ls
  total_of = p.total_is ∙ ap (λ (x : ℕ). x + layers_force (take n ls)) slab-total ∙ ap (λ (xs : List BarLayer). slab_force s * s.height + layers_force xs) whole

  pub put_fits : length ls ≤ 6 → total ≤ 2 ^ 36 → DeckFits s ls
  put_fits few light = record { slab_fits = made.0; few = few; layers_fit = subst LayersFit whole p.fit; light = omega (arith, total_of) }

  pub put_heavy : 2 ^ 36 < total → DeckFits s ls → ⊥
  put_heavy heavy f = omega (arith, total_of, f.light)

  pub put_bars : stacked bars ≡ layers_strip ls
  put_bars = fun_ext (λ i. p.strips_are i ∙ ap (λ (xs : List BarLayer). layers_strip xs i) whole)

  pub put_pushes : (strips b ⊕ stacked bars) ≡ (slab_strip s ⊕ layers_strip ls)
  put_pushes = fun_ext (λ i. ap (λ (x : ℕ). x + stacked bars i) (rw (made.1, made.2, made.3)) ∙ ap (λ (f : ℕ → ℕ). slab_strip s i + f i) put_bars)
