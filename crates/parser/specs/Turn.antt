-- One turn of the stack reader: what each of its functions answers. The code's own machinery, nothing to believe: that the turns make the
-- reader by levels is proved.
use Rattle.lexer.specs.declared.Got.{Got}
use Rattle.std.specs.Prelude.{ℕ, ◌+◌, ◌-◌, ◌<◌, Bool, true, false, cond, ◌||◌, leb, ltb, List, replicate, Option, Some, None, Result, Ok, Err}
use Rattle.refusal.specs.Refused.{span}
use Rattle.refusal.specs.declared.Span.{Span}
use Rattle.refusal.specs.declared.Expected.TheVariants as E
use Rattle.refusal.specs.declared.Refusal.{Refusal}
use Rattle.refusal.specs.declared.Refusal.TheVariants.{Unexpected, UnopenedParens, UnclosedParens, Empty, DeprecatedLicenseId, TooManyLeaves, TooDeep}
use Rattle.mode.specs.declared.Mode.{Mode}
use Rattle.lexer.specs.declared.Token.{Token}
use Rattle.lexer.specs.declared.Token.TheVariants as T
use Rattle.grammar.specs.declared.Node.{Node}
use Rattle.grammar.specs.declared.Node.TheVariants as K
use Rattle.grammar.specs.declared.Leaf.{Leaf}
use Rattle.grammar.specs.declared.Before.{Before}
use Rattle.grammar.specs.declared.Before.TheVariants.{Nothing, Joint, Listed, Term, Suffixed, With, Added, Closed}
use Rattle.grammar.specs.declared.Start.{Start}
use Rattle.grammar.specs.declared.Start.TheVariants.{Begins, Barred, Opens, Unfit}
use Rattle.grammar.specs.Move.{Move}
use Rattle.grammar.specs.Parsed.{Parsed}
use Rattle.grammar.specs.declared.Link.{Link}
use Rattle.grammar.specs.declared.Link.TheVariants as N
use Rattle.parser.specs.declared.State.{State}
use Rattle.parser.specs.declared.Frame.{Frame}
use Rattle.parser.specs.declared.Ends.{Ends}
use Rattle.parser.specs.declared.Ends.TheVariants as S
use Rattle.parser.specs.declared.Frame.TheVariants as F
use Rattle.parser.specs.declared.Action.{Action}
use Rattle.parser.specs.declared.Action.TheVariants.{Put, Push, Go, Done}
use Rattle.grammar.specs.Leaves.{is_with, start_of, move_of}
use Rattle.grammar.specs.Grammar.{unexpected, link_of, blank}

-- what fits 16 bits
abbrev pub Small : Span → Type 0
Small sp = (sp.start < 65536) × (sp.end < 65536)

abbrev pub SmallPart : Option Span → Type 0
SmallPart None = Unit {0}
SmallPart (Some sp) = Small sp

abbrev pub SmallToken : Token → Type 0
SmallToken T.And = Unit {0}
SmallToken T.Or = Unit {0}
SmallToken T.With = Unit {0}
SmallToken T.Plus = Unit {0}
SmallToken T.Open = Unit {0}
SmallToken T.Close = Unit {0}
SmallToken (T.Licence k) = k < 65536
SmallToken (T.Exception k) = k < 65536
SmallToken (T.LicenseRef d n) = SmallPart d × Small n
SmallToken (T.AdditionRef d n) = SmallPart d × Small n
SmallToken (T.Unknown n) = Small n

abbrev pub SmallFound : Option ℕ → Type 0
SmallFound (Some j) = j < 65536
SmallFound None = Unit {0}

abbrev pub SmallStep : Option Got → Type 0
SmallStep (Some g) = SmallToken g.token × Small g.span × (g.span.start < 60000)
SmallStep None = Unit {0}

abbrev pub is_expecting : Before → Bool
is_expecting Nothing = true
is_expecting Joint = true
is_expecting (Listed k) = false
is_expecting Term = false
is_expecting Suffixed = false
is_expecting With = false
is_expecting Added = false
is_expecting Closed = false

-- what a turn answers: what it does to the arrays, or a refusal
abbrev pub Turned : Type 0
Turned = Result Action Refusal

abbrev pub state : ℕ → ℕ → ℕ → ℕ → ℕ → Before → State
state at sp count leaves opens b = record { at = at; sp = sp; count = count; leaves = leaves; opens = opens; before = b }

unfoldable pub leaf_action : Leaf → Before → Span → State → Turned
leaf_action l b sp st =
    cond (ltb st.leaves 64) (Ok (Put l (state sp.end st.sp (st.count + 1) (st.leaves + 1) st.opens b))) (Err (TooManyLeaves sp))

unfoldable pub open_action : Span → State → Turned
open_action sp st =
    cond (ltb st.opens 32) (Ok (Push (F.Open sp.start) (state sp.end (st.sp + 1) st.count st.leaves (st.opens + 1) Joint)))
    (Err (TooDeep sp))

abbrev pub start_action : Start → Span → State → Turned
start_action (Begins l b) sp st = leaf_action l b sp st
start_action Barred sp st = Err (DeprecatedLicenseId sp)
start_action Opens sp st = open_action sp st
start_action Unfit sp st = Err (Unexpected sp E.Term)

abbrev pub push_action : Frame → Span → State → Turned
push_action c sp st = Ok (Push c (state sp.end (st.sp + 1) st.count st.leaves st.opens Joint))

abbrev pub close_action : Span → State → Frame → Turned
close_action sp st F.Bottom = Err (UnopenedParens sp)
close_action sp st F.And = Err (UnopenedParens sp)
close_action sp st F.Or = Err (UnopenedParens sp)
close_action sp st (F.Open p) = Ok (Go (state sp.end (st.sp - 1) st.count st.leaves (st.opens - 1) Closed))

abbrev pub link_action : Link → Span → State → Frame → Turned
link_action N.And sp st top = push_action F.And sp st
link_action N.Or sp st top = push_action F.Or sp st
link_action N.Close sp st top = close_action sp st top
link_action N.Other sp st top = Err (unexpected sp st.before)

abbrev pub put_action : Leaf → Before → Span → State → Turned
put_action l b sp st = Ok (Put l (state sp.end st.sp st.count st.leaves st.opens b))

abbrev pub move_action : Move → Token → Span → State → Frame → Turned
move_action (Ok (Some (l, b))) t sp st top = put_action l b sp st
move_action (Ok None) t sp st top = link_action (link_of t) sp st top
move_action (Err r) t sp st top = Err r

unfoldable pub token_action : Mode → Token → Span → Leaf → State → Frame → Turned
token_action m t sp l st top =
    cond (is_expecting st.before) (start_action (start_of m t sp) sp st) (move_action (move_of m st.before l t sp) t sp st top)

abbrev pub finish_action : Frame → Turned
finish_action F.Bottom = Ok Done
finish_action F.And = Ok Done
finish_action F.Or = Ok Done
finish_action (F.Open p) = Err (UnclosedParens (span p (p + 1)))

abbrev pub end_action : ℕ → Before → Frame → Turned
end_action e Nothing top = Err (Empty (span 0 e))
end_action e Joint top = Err (unexpected (span e e) Joint)
end_action e (Listed k) top = finish_action top
end_action e Term top = finish_action top
end_action e Suffixed top = finish_action top
end_action e With top = Err (unexpected (span e e) With)
end_action e Added top = finish_action top
end_action e Closed top = finish_action top

abbrev pub turn_of : Mode → Option Got → ℕ → Leaf → State → Frame → Turned
turn_of m (Some g) e l st top = token_action m g.token g.span l st top
turn_of m None e l st top = end_action e st.before top

-- which operators on the stack a token ends: those up to this number
abbrev pub rank_by : Link → ℕ
rank_by N.And = 0
rank_by N.Or = 1
rank_by N.Close = 2
rank_by N.Other = 0

abbrev pub rank_after : Option Got → ℕ
rank_after (Some g) = rank_by (link_of g.token)
rank_after None = 2

unfoldable pub rank_of : Option Got → Before → ℕ
rank_of x b = cond (is_expecting b || is_with b) 0 (rank_after x)

-- the code's word for a rank
abbrev pub level : Ends → ℕ
level S.Nothing = 0
level S.Ands = 1
level S.All = 2

-- is a frame an operator up to a rank: AND is the first, OR the second
abbrev pub pops_of : Frame → ℕ → Bool
pops_of F.Bottom r = false
pops_of F.And r = leb 1 r
pops_of F.Or r = leb 2 r
pops_of (F.Open p) r = false

-- the operator of a frame
abbrev pub kind_of : Frame → Node
kind_of F.Bottom = K.Or
kind_of F.And = K.And
kind_of F.Or = K.Or
kind_of (F.Open p) = K.Or

-- what is answered where the nodes are set in an array that is lent: their count, or a refusal
abbrev pub with_nodes : Result ℕ Refusal → List Node → Parsed
with_nodes (Ok n) q = Ok (record { count = n; nodes = q })
with_nodes (Err r) q = Err r

abbrev pub told_count : Parsed → Result ℕ Refusal
told_count (Ok p) = Ok p.count
told_count (Err r) = Err r

-- the nodes that are left there. Document 01: "A refused parse returns zero nodes"
abbrev pub left_nodes : Parsed → List Node
left_nodes (Ok p) = p.nodes
left_nodes (Err r) = replicate 127 blank
