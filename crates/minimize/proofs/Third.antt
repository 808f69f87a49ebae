-- The third demand, of the public definitions: the listing of a text and a list, resumed until it is finished, gives every set of found licensees that
-- satisfies and loses that if any member is taken out, as masks/specs/Promise.antt says it.
use Prim.Native.Nat.{ℕ, ◌≤◌}
use Rattle.std.specs.Prelude.{◌≡◌, Bool, true, List, Ok}
use Rattle.std.proofs.Common.{sym, ap, ◌∙◌}
use Rattle.std.proofs.Math.ListN.{length}
use borrow.Author.Tests.{le-ltb}
use Rattle.mode.specs.declared.Mode.{Mode}
use Rattle.lexer.specs.Tokens.{Tokens}
use Rattle.grammar.specs.declared.Leaf.{Leaf}
use Rattle.grammar.specs.declared.Node.{Node}
use Rattle.grammar.specs.declared.Before.{Before}
use Rattle.grammar.specs.Tree.{Tree, postfix}
use Rattle.grammar.proofs.Shape.{reads_tree}
use Rattle.grammar.specs.Grammar.{got, parse_of}
use Rattle.licensee.specs.declared.Licensee.{Licensee}
use Rattle.licensee.specs.Offers.{good, list_of}
use Rattle.masks.specs.Masks.{listed, chosen}
use Rattle.masks.specs.Promise.{Kept}
use Rattle.masks.proofs.Kept.{kept, kept_same, chosen_least}
use Rattle.masks.specs.declared.Choice.TheVariants as C
use Rattle.minimize.specs.Minimize.{found_of, satisfied, posed, limited, problem_of, choice_of, listing_of}
use Rattle.minimize.proofs.PosedLaws.{tree_of_lem}
use Rattle.minimize.proofs.Satisfaction.{satisfied_none, satisfied_all}

module _ (s : List ℕ) (m : Mode) (f : List ℕ) (t : Tree Leaf) (b : Before) (ts : Tokens) (ls : List Licensee)
    (reads : parse_of s m ≡ got (postfix t) b ts) (valid : list_of f ≡ good ls) (few : length (found_of f s t ls) ≤ 30) where
  -- how many are found, and which sets of them satisfy
  pub problem_posed : problem_of s m f ≡ posed (length (found_of f s t ls)) (satisfied f s (found_of f s t ls) t)
  unfolding problem_of limited
  problem_posed = rw (reads, tree_of_lem t, valid, le-ltb 30 (length (found_of f s t ls)) few)

  pub third_demand : (β : ℕ → ℕ) → ((i : ℕ) → 1 ≤ β i)
      → Kept (listing_of s m f) (choice_of s m f) (satisfied f s (found_of f s t ls) t) (length (found_of f s t ls)) β
  third_demand β h =
      kept_same (listed sat k) (listing_of s m f) (chosen sat k) (choice_of s m f)
      (λ c b. unfold listing_of in rw problem_posed) (λ b. unfold choice_of in rw problem_posed)
      sat k β (kept sat k (satisfied_none f s (found_of f s t ls) t) (satisfied_all f s (found_of f s t ls) t k) β h)
    where
      k : ℕ
      k = length (found_of f s t ls)

      sat : ℕ → Bool
      sat = satisfied f s (found_of f s t ls) t

  -- a set that is chosen satisfies, and no set of a lesser mask does
  pub choice_least : (b x : ℕ) → choice_of s m f b ≡ Ok (C.Mask x)
      → (satisfied f s (found_of f s t ls) t x ≡ true) × ((y : ℕ) → satisfied f s (found_of f s t ls) t y ≡ true → x ≤ y)
  choice_least b x e =
      chosen_least sat (satisfied_none f s (found_of f s t ls) t) k b x (sym q ∙ e)
    where
      k : ℕ
      k = length (found_of f s t ls)

      sat : ℕ → Bool
      sat = satisfied f s (found_of f s t ls) t

      q : choice_of s m f b ≡ chosen sat k b
      q = unfold choice_of in rw problem_posed

-- a list whose licensees are ls and a text whose nodes are q: they are a tree's, and where at most 30 are found the third demand is kept
pub record ThirdFor (s : List ℕ) (m : Mode) (f : List ℕ) (q : List Node) (ls : List Licensee) : Type 0 where
  pub tree : Tree Leaf
  pub nodes : q ≡ postfix tree
  pub keeps : length (found_of f s tree ls) ≤ 30 → (β : ℕ → ℕ) → ((i : ℕ) → 1 ≤ β i)
      → Kept (listing_of s m f) (choice_of s m f) (satisfied f s (found_of f s tree ls) tree) (length (found_of f s tree ls)) β

-- so it is for every text that reads and every list that is valid
pub third_for_any : (s : List ℕ) (m : Mode) (f : List ℕ) (q : List Node) (b : Before) (ts : Tokens) (ls : List Licensee)
    → parse_of s m ≡ got q b ts → list_of f ≡ good ls → ThirdFor s m f q ls
third_for_any s m f q b ts ls reads valid =
    let h = reads_tree s m q b ts reads in
    let r : parse_of s m ≡ got (postfix h.tree) b ts = reads ∙ ap (λ (z : List Node). got z b ts) h.nodes in
    record { tree = h.tree; nodes = h.nodes; keeps = third_demand s m f h.tree b ts ls r valid }
