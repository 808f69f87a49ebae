-- The parse's answer has room for its nodes.
use Rattle.std.specs.Prelude.{ℕ, ◌-◌, ◌≤◌, ◌≡◌, refl, List, length, replicate, Ok}
use Rattle.std.proofs.Common.{arith, ap, length-append}
use Rattle.std.proofs.lemmas.List.{length-replicate}
use Rattle.mode.specs.declared.Mode.{Mode}
use Rattle.grammar.specs.declared.Node.{Node}
use Rattle.grammar.specs.declared.Nodes.{Nodes}
use Rattle.grammar.specs.TreeLaws.{tree_length}
use Rattle.grammar.specs.Grammar.{Result, got, refused, parse_of, blank, padded, answer_of}
use Rattle.grammar.proofs.Shape.{reads_tree}

padded_length : (q : List Node) → length q ≤ 127 → length (padded q) ≡ 127
padded_length q h =
    omega (arith, length-append q (replicate (127 - length q) blank), length-replicate (127 - length q) blank)

pub ask_fits : (s : List ℕ) (m : Mode) (p : Nodes) → answer_of (parse_of s m) ≡ Ok p → (p.count ≤ 127) × (length p.nodes ≡ 127)
ask_fits s m p = go (parse_of s m) refl
  where
    go : (x : Result) → parse_of s m ≡ x → answer_of x ≡ Ok p → (p.count ≤ 127) × (length p.nodes ≡ 127)
    go (got q b ts) h e =
        let n = (tree_length q (reads_tree s m q b ts h)).1 in
        let c : length q ≡ p.count = cc e in
        let l : padded q ≡ p.nodes = cc e in
        (omega arith, omega (arith, ap length l, padded_length q n))
    go (refused r) h e = absurd (let z : ◌≡◌ {A = ℕ} 0 1 = cc in omega arith)
