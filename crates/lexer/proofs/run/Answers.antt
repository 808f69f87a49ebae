use Rattle.std.proofs.Common.{◌∙◌, arith}
use Rattle.std.proofs.lemmas.Bool.{ne_eqb, eq-eqb}
use Rattle.lexer.specs.Lex.{run_of}
use Rattle.lexer.proofs.RunLaws.{run_ge, run_le}
use Rattle.lexer.proofs.run.Goals as goal

pub returns-then-e-p : goal.returns-then-e-p
unfolding run_of
returns-then-e-p c = simp (← c.run_end-e.ensures, eq-eqb _ _ c.if-e-p.true)

-- a run starts where it was looked for and ends inside the text
pub known-requires : goal.known-requires
known-requires c =
    let e = c.run_end-e.ensures in
    let g = run_ge c.args.s.now c.args.p in
    let h = run_le c.args.s.now c.args.p c.requires in
    (omega arith, omega arith)

pub returns-in-Some : goal.returns-in-Some
unfolding run_of
returns-in-Some c =
    c.emit.ensures ∙ simp (← c.run_end-e.ensures, ne_eqb _ _ c.if-e-p.false, ← c.known.ensures, c.in-Some.is)

pub returns-in-None : goal.returns-in-None
unfolding run_of
returns-in-None c = simp (← c.run_end-e.ensures, ne_eqb _ _ c.if-e-p.false, ← c.known.ensures, c.in-None.is)
