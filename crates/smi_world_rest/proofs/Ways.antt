-- How many moves a block makes.
use Rattle.std.proofs.Common.{◌≡◌, ◌≤◌, ◌+◌, max, ℕ, zero, suc, Bool, true, false, List, [], ◌∷◌, ◌++◌, length, Option}
use Rattle.std.proofs.Common.{Some, None, refl, ap, ◌∙◌, subst, arith, length-append}
use Rattle.std.specs.Prelude.{MatchBool, is_some}
use Rattle.std.specs.Option.{option_map, option_and_then}
use Rattle.std.proofs.lemmas.Option.{none-some, same_Some}
use Rattle.sml_domain.specs.Program.{Program, Nothing, SetThen, SendThen, SendNoneThen, IfThen, EndIn, TerminateIn}
use Rattle.sml_domain.specs.Program.{WaitThen, ChangeThen}
use Rattle.sml_domain.specs.Domain.{Domain}
use Rattle.sml_domain.specs.Lookups.{program_at, block_at, tree_of_block}
use Rattle.sml_domain.specs.Trees.{tree_at, trees_of}
use Rattle.smi_journal_entries.specs.declared.entry.Entry.{Entry}
use Rattle.smi_journal_entries.specs.declared.letter.Letter.{Letter}
use Rattle.smi_journal_entries.specs.declared.journal.Format.TheVariants.{Two}
use Rattle.smi_journal_entries.specs.Words.{open_at, is_open, state_of}
use Rattle.smi_meaning.specs.Conditions.{is_true_over}
use Rattle.smi_journal_entries.specs.Sets.{members_in}
use Rattle.smi_meaning.specs.Environment.{Env}
use Rattle.smi_meaning.specs.Meaning.{Move, Outcome, Through, To, Means, Goes}
use Rattle.smi_meaning.specs.Params.{Running, run_with, running_in, running_at, env_of}
use Rattle.smi_meaning.specs.Quiet.{said_of_block}
use Rattle.smi_world.specs.World.{Setup, World, moves_of}
use Rattle.smi_world.specs.Moves.{MayMove}
use Rattle.smi_world_rest.specs.OwnSteps.{AreMovesWithin, longest_way, longest_of, most_moves, MovesAreFew}

-- ---- of a block

-- of the blocks of an `if`, either
either_few : (d : Domain) (c : Bool) (p q : Program) (env : Env) (ms : List Move) (e : Env) (r : Outcome)
    → (Means d p env ms e r → length ms ≤ longest_way p) → (Means d q env ms e r → length ms ≤ longest_way q)
    → MatchBool c (Means d p env ms e r) (Means d q env ms e r) → length ms ≤ max (longest_way p) (longest_way q)
either_few d true p q env ms e r hp hq h = let k = hp h in omega (arith, k)
either_few d false p q env ms e r hp hq h = let k = hq h in omega (arith, k)

-- of what follows it, if that is reached
rest_few : (d : Domain) (rest : Program) (r1 : Outcome) (e1 : Env) (ms : List Move) (e : Env) (r : Outcome)
    → (Means d rest e1 ms e r → length ms ≤ longest_way rest) → Goes r1 e1 ms e r (Means d rest)
    → length ms ≤ longest_way rest
rest_few d rest Through e1 ms e r ih h = ih h
rest_few d rest (To s) e1 ms e r ih h = let k = ap (λ l. length l) h.0 in omega (arith, k)

ways_few : (d : Domain) (b : Program) (env : Env) (ms : List Move) (e : Env) (r : Outcome) → Means d b env ms e r
    → length ms ≤ longest_way b
ways_few d Nothing env ms e r h = let k = ap (λ l. length l) h.0 in omega (arith, k)
ways_few d (EndIn s) env ms e r h = let k = ap (λ l. length l) h.0 in omega (arith, k)
ways_few d (TerminateIn s) env ms e r h = let k = ap (λ l. length l) h.0 in omega (arith, k)
ways_few d (SetThen p x rest) env ms e r h =
    let k = ap (λ l. length l) h.1 in
    let i = ways_few d rest _ h.0 e r h.2 in
    omega (arith, k, i)
ways_few d (SendThen target a args rest) env ms e r h =
    let k = ap (λ l. length l) h.2 in
    let i = ways_few d rest env h.1 e r h.4 in
    omega (arith, k, i)
ways_few d (SendNoneThen set rest) env ms e r h =
    let k = ap (λ l. length l) h.2 in
    let i = ways_few d rest env h.1 e r h.4 in
    omega (arith, k, i)
ways_few d (IfThen f p q rest) env ms e r h =
    let k = ap (λ l. length l) h.5 in
    let parts = length-append h.1 h.2 in
    let test = is_true_over (members_in d h.0.sets) h.0.readings f in
    let one = ways_few d p env h.1 h.3 h.4 in
    let other = ways_few d q env h.1 h.3 h.4 in
    let either = either_few d test p q env h.1 h.3 h.4 one other h.7 in
    let behind = rest_few d rest h.4 h.3 h.2 e r (ways_few d rest h.3 h.2 e r) h.8 in
    omega (arith, k, parts, either, behind)
ways_few d (WaitThen names rest) env ms e r h =
    let k = ap (λ l. length l) h.2 in
    let i = ways_few d rest env h.1 e r h.4 in
    omega (arith, k, i)
ways_few d (ChangeThen add member set rest) env ms e r h =
    let k = ap (λ l. length l) h.1 in
    let i = ways_few d rest env h.0 e r h.2 in
    omega (arith, k, i)

-- ---- of a domain

tree_few : (trees : List Program) (n : ℕ) → longest_way (tree_at trees n) ≤ longest_of trees
tree_few [] n = omega arith
tree_few (b ∷ bs) zero = omega arith
tree_few (b ∷ bs) (suc n) = let k = tree_few bs n in omega (arith, k)

block_few : (d : Domain) (l : Option ℕ) (b : Program) → option_map (tree_of_block d) l ≡ Some b
    → longest_way b ≤ most_moves d
block_few d None b is = absurd (none-some b is)
block_few d (Some n) b is =
    let same = same_Some (tree_of_block d n) b is in
    subst (λ p. longest_way p ≤ most_moves d) same (tree_few (trees_of d.blocks) n)

pub moves_are_few : MovesAreFew
moves_are_few d o s a b env made declared begins =
    let whole = ways_few d b env (made ++ begins.0) begins.1 begins.2 begins.3 in
    let parts = length-append made begins.0 in
    let few = block_few d (block_at d o s a) b declared in
    omega (arith, whole, parts, few)

-- ---- of what runs

-- what runs is declared
abbrev IsDeclared : Domain → List Entry → ℕ → Running → Type 0
IsDeclared d J o run = (a : ℕ) × (program_at d o (state_of d o J) a ≡ Some run.program)

declared_in : (d : Domain) (J : List Entry) (o : ℕ) (l : Letter) (run : Running) (p : Option Program)
    → program_at d o (state_of d o J) l.action ≡ p
    → option_map (run_with l.args) (option_map (said_of_block Two d) p) ≡ Some run → IsDeclared d J o run
declared_in d J o l run None is h = absurd (none-some run h)
declared_in d J o l run (Some b) is h =
    let same = same_Some (run_with l.args b) run h in
    (l.action, is ∙ ap (λ (r : Running). Some r.program) same)

declared_at : (d : Domain) (J : List Entry) (o : ℕ) (run : Running) (l : Option Letter)
    → option_and_then (running_in Two d o J) l ≡ Some run → IsDeclared d J o run
declared_at d J o run None h = absurd (none-some run h)
declared_at d J o run (Some l) h = declared_in d J o l run (program_at d o (state_of d o J) l.action) refl h

-- an action that may make one more move has made fewer than all
pub one_more_move : (m : Setup) (n : ℕ) (w : World) (o : ℕ) (x : Move) → AreMovesWithin m.domain n → MayMove m w o x
    → length (moves_of o w) + 1 ≤ n
one_more_move m n w o x few h =
    let d = m.domain in
    let run = h.action.run in
    let declared = declared_at d w.journal o run (open_at o w.journal) h.action.runs in
    let env = env_of h.action.own run in
    let made = moves_of o w ++ x ∷ [] in
    let most = few o (state_of d o w.journal) declared.0 run.program env made declared.1 h.begins in
    let long = length-append (moves_of o w) (x ∷ []) in
    omega (arith, most, long)

-- what runs is open
pub runs_open : (d : Domain) (J : List Entry) (o : ℕ) (run : Running) → running_at Two d o J ≡ Some run
    → is_open o J ≡ true
runs_open d J o run h = go (open_at o J) h
  where
    go : (l : Option Letter) → option_and_then (running_in Two d o J) l ≡ Some run → is_some l ≡ true
    go None e = absurd (none-some run e)
    go (Some l) e = refl
