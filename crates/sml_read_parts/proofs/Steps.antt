-- What is read of an instruction, by the tokens and parts that were read of it.
use Rattle.std.proofs.Common.{◌≡◌, ◌<◌, ◌≤◌, ℕ, Bool, List, ◌∷◌, refl, ap, subst, ◌∙◌, length, arith}
use Rattle.sml_tree.specs.declared.token_kind.TokenKind.{TokenKind}
use Rattle.sml_tree.specs.declared.token_kind.TokenKind.TheVariants.{Do, Set, MoveTo, TerminateAction, Insert, Remove, In, From, Slash, State, Equals, Name}
use Rattle.sml_tree.specs.Piece.{Piece}
use Rattle.sml_tree.specs.Syntax.{InstrData, PassedData, ArgData, send, assign, move_to, terminate, insert_in, remove_from}
use Rattle.sml_tree.specs.Grammar.{name}
use Rattle.sml_tree.specs.Form.{Block, ArgList, Every, Arg, Bone, P}
use Rattle.sml_tree.specs.Form as of
use Rattle.sml_read_parts.specs.Reads.{LeadsOn, Passes, SeesKind}

-- an instruction is in front of a block
abbrev pub Front : ℕ → InstrData → List Piece → List Piece → Type 0
Front d i old new = (length new < length old) × LeadsOn (Block d) (Block d) (λ v. i ∷ v) old new

-- a token is in front of others
abbrev pub Taken : TokenKind → Piece → List Piece → List Piece → Type 0
Taken kind t old new = (old ≡ t ∷ new) × (t.kind ≡ kind)

pub seen : (kind : TokenKind) (t : Piece) (old new : List Piece) → old ≡ t ∷ new → SeesKind kind old → t.kind ≡ kind
seen kind t old new e h = subst (λ (l : List Piece). SeesKind kind l) e h

pub moves : (d : ℕ) (i : InstrData) (w : List ℕ) (t n : Piece) (old mid new : List Piece) → old ≡ t ∷ mid → SeesKind MoveTo old → Taken Name n mid new → w ≡ name n → i ≡ move_to w → Front d i old new
moves d i w t n old mid new e sees read is says =
    let kind = seen MoveTo t old mid e sees in
    (omega (arith, ap length e, ap length read.0), λ p more k. rw (e, read.0, kind, says, is) (rw read.1 refl))

pub terminates : (d : ℕ) (i : InstrData) (w : List ℕ) (t a b c n : Piece) (old u v x y new : List Piece) → old ≡ t ∷ u → SeesKind TerminateAction old
    → Taken Slash a u v → Taken State b v x → Taken Equals c x y → Taken Name n y new → w ≡ name n → i ≡ terminate w → Front d i old new
terminates d i w t a b c n old u v x y new e sees slash state equals read is says =
    let kind = seen TerminateAction t old u e sees in (
      omega (arith, ap length e, ap length slash.0, ap length state.0, ap length equals.0, ap length read.0),
      λ p more k. rw (e, slash.0, state.0, equals.0, read.0, kind, says, is) (rw (slash.1, state.1, equals.1, read.1) refl),
    )

pub sets : (d : ℕ) (i : InstrData) (w : List ℕ) (value : ArgData) (t n b : Piece) (old u v x new : List Piece) → old ≡ t ∷ u → SeesKind Set old
    → Taken Name n u v → w ≡ name n → Taken Equals b v x → (length new ≤ length x) × Passes Arg value x new → i ≡ assign w value → Front d i old new
sets d i w value t n b old u v x new e sees read is equals passes says =
    let kind = seen Set t old u e sees in (
      omega (arith, ap length e, ap length read.0, ap length equals.0, passes.0),
      λ p more k. rw (e, read.0, equals.0, kind, says, is) (rw (read.1, equals.1) (passes.1 p (P of.Blocks ∷ more) _)),
    )

pub sends : (d : ℕ) (i : InstrData) (action target : List ℕ) (args : List PassedData) (all : Bool) (t n m : Piece) (old u v x y new : List Piece) → old ≡ t ∷ u → SeesKind Do old
    → Taken Name n u v → action ≡ name n → (length x ≤ length v) × Passes ArgList args v x → (length y ≤ length x) × Passes Every all x y → Taken Name m y new → target ≡ name m
    → i ≡ send (record { action = action; args = args; all = all; target = target }) → Front d i old new
sends d i action target args all t n m old u v x y new e sees read is passes every aim is' says =
    let kind = seen Do t old u e sees in (
      omega (arith, ap length e, ap length read.0, passes.0, every.0, ap length aim.0),
      λ p more k. rw (e, read.0, kind, says, is, is') (rw read.1 (passes.1 p _ _ ∙ every.1 p _ _ ∙ rw aim.0 (rw aim.1 refl))),
    )

pub inserts : (d : ℕ) (i : InstrData) (member set : List ℕ) (t n a m : Piece) (old u v x new : List Piece) → old ≡ t
    ∷ u → SeesKind Insert old
    → Taken Name n u v → member ≡ name n → Taken In a v x → Taken Name m x new → set ≡ name m → i
    ≡ insert_in member set → Front d i old new
inserts d i member set t n a m old u v x new e sees read is word aim is' says =
    let kind = seen Insert t old u e sees in (
      omega (arith, ap length e, ap length read.0, ap length word.0, ap length aim.0),
      λ p more k. rw (e, read.0, word.0, aim.0, kind, says, is, is') (rw (read.1, word.1, aim.1) refl),
    )

pub removes : (d : ℕ) (i : InstrData) (member set : List ℕ) (t n a m : Piece) (old u v x new : List Piece) → old ≡ t
    ∷ u → SeesKind Remove old
    → Taken Name n u v → member ≡ name n → Taken From a v x → Taken Name m x new → set ≡ name m → i
    ≡ remove_from member set → Front d i old new
removes d i member set t n a m old u v x new e sees read is word aim is' says =
    let kind = seen Remove t old u e sees in (
      omega (arith, ap length e, ap length read.0, ap length word.0, ap length aim.0),
      λ p more k. rw (e, read.0, word.0, aim.0, kind, says, is, is') (rw (read.1, word.1, aim.1) refl),
    )
