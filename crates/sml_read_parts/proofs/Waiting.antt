-- What is read of a `wait`, by the tokens and parts that were read of it.
use Rattle.std.proofs.Common.{◌≡◌, ◌+◌, ℕ, false, List, [], ◌∷◌, ◌++◌, ap, ◌∙◌, Err}
use Rattle.sml_tree.specs.declared.token_kind.TokenKind.TheVariants.{Name, Wait, OpenBracket, CloseBracket}
use Rattle.sml_tree.specs.Piece.{Piece}
use Rattle.sml_tree.specs.Syntax.{WaitedData, wait_for}
use Rattle.sml_tree.specs.Grammar.{name}
use Rattle.sml_tree.specs.Form.{B, P, Form, Waited, MoreWaited, MoreWaiteds, Block, Blocks, Value, Fine, needs, calls, gives, word, part, ◌>>=◌, ◌>>◌}
use Rattle.sml_read_parts.specs.declared.fault.Stop.{Stop}
use Rattle.sml_read_parts.specs.declared.fault.Stop.TheVariants as stop
use Rattle.sml_read_parts.specs.Machine.{run}
use Rattle.sml_read_parts.specs.Reads.{LeadsOn, Passes, Stops, SeesKind, ReadsToken}
use Rattle.sml_read_parts.specs.Stands.{ReadsLimited}
use Rattle.sml_read_parts.specs.Trails.{Trail}
use Rattle.sml_read_parts.proofs.Lists.{agree}
use Rattle.sml_read_parts.proofs.Steps.{Taken, seen}
use Rattle.sml_tree.specs.declared.limits.TheConstants.{MAX_WAITED}

-- an object is refused
pub object_refused : (before : ℕ) (old new : List Piece) (e : Stop) → SeesKind Name old → ReadsLimited MAX_WAITED before old new (Err e) → Stops (Waited before) old e
object_refused before [] new e sees none = absurd sees
object_refused before (t ∷ ts) new stop.Memory sees none = absurd none
object_refused before (t ∷ ts) new (stop.Fault f) sees none = λ g more k. rw sees (rw sees at (none g more (λ n. k (record { all = false; name = name n }))))

-- what is behind the `n` that were read
abbrev rest : (depth n : ℕ) → List WaitedData → Form (Value (Block depth)) (P MoreWaiteds ∷ B CloseBracket ∷ P Blocks ∷ [])
rest depth n xs = do
  others ← part (MoreWaited n)
  word CloseBracket
  block ← part (Block depth)
  gives (wait_for (xs ++ others) ∷ block)

-- these were read of a `wait`
abbrev pub Waits : (depth n : ℕ) → List WaitedData → List Piece → List Piece → Type 0
Waits depth n xs = Trail (Block depth) (P MoreWaiteds ∷ B CloseBracket ∷ P Blocks ∷ []) (rest depth n xs)

-- the first was read
pub waits_begun : (depth : ℕ) (t b : Piece) (x : WaitedData) (old u v new : List Piece) → old ≡ t ∷ u → SeesKind Wait old → Taken OpenBracket b u v → Passes (Waited 0) x v new → Waits depth 1 (x ∷ []) old new
waits_begun depth t b x old u v new e sees bracket passes g more k =
    let kind = seen Wait t old u e sees in
    rw (e, bracket.0, kind) (rw bracket.1 (passes g _ _))

-- one more was read
pub waits_more : (depth n : ℕ) (xs ys : List WaitedData) (x : WaitedData) (old mid new : List Piece) → Waits depth n xs old mid → LeadsOn (MoreWaited n) (MoreWaited (n + 1)) (λ v. x ∷ v) mid new
    → ((v : List WaitedData) → xs ++ (x ∷ v) ≡ ys ++ v) → Waits depth (n + 1) ys old new
waits_more depth n xs ys x old mid new a b e g more k =
    a g more k ∙ b g _ _
    ∙ ap (λ (w : List WaitedData → List WaitedData). run g (P MoreWaiteds ∷ B CloseBracket ∷ P Blocks ∷ more) (calls (MoreWaited (n + 1)) (λ v. needs CloseBracket Fine (λ _. calls (Block depth) (λ block. k (wait_for (w v) ∷ block))))) new)
    (agree (λ v. xs ++ (x ∷ v)) (λ v. ys ++ v) e)

-- the next is refused
pub waits_refused : (depth n : ℕ) (xs : List WaitedData) (old mid : List Piece) (e : Stop) → Waits depth n xs old mid → Stops (MoreWaited n) mid e → Stops (Block depth) old e
waits_refused depth n xs old mid stop.Memory a b = tt
waits_refused depth n xs old mid (stop.Fault f) a b = λ g more k. a g more k ∙ b g _ _

-- neither a comma nor the bracket is there
pub waits_open : (depth n : ℕ) (xs : List WaitedData) (old mid new : List Piece) (e : Stop) → Waits depth n xs old mid → Passes (MoreWaited n) [] mid mid → ReadsToken CloseBracket mid new (Err e) → Stops (Block depth) old e
waits_open depth n xs old mid new stop.Memory a none b = absurd b
waits_open depth n xs old mid new (stop.Fault f) a none b = λ g more k. a g more k ∙ none g _ _ ∙ b g _ _ _
