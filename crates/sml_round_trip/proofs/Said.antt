-- The canonical text of a file says the file.
use Rattle.std.proofs.Common.{◌≡◌, ℕ, List, [], ◌∷◌, ◌++◌, refl, subst, append-nil, Some, None, nat_lt, not, cond, true, false, length, arith}
use Rattle.std.proofs.lemmas.Bool.Decides.{nat_tests}
use Rattle.std.specs.List.{position_or_len}
use Rattle.sml_text.specs.Bytes.{is_ascii}
use Rattle.sml_text.specs.Tokens.{Each}
use Rattle.sml_tree.specs.Syntax.{ItemData}
use Rattle.sml_tree.specs.Piece.{marked_words}
use Rattle.sml_tree.specs.Limits.{IsWithinLimits}
use Rattle.sml_tree.specs.Laws.{WithinLimits, FewBrackets}
use Rattle.sml_print.specs.Items.{file_text}
use Rattle.sml_read.specs.Promise.{IsShort, first_foreign, IsFileOf}
use Rattle.sml_round_trip.specs.Writable.{IsWritable}
use Rattle.sml_round_trip.specs.Laws.{HasFewBrackets}
use Rattle.sml_round_trip.proofs.Real.{all_real}
use Rattle.sml_round_trip.proofs.Contents.{file_writable}
use Rattle.sml_round_trip.proofs.Lexed.{Lexes, lexes_none}
use Rattle.sml_round_trip.proofs.Items.{file_wrote}

-- no byte stops the search
all_passed : (text : List ℕ) → Each is_ascii text → position_or_len (λ b. nat_lt 127 b) text ≡ length text
all_passed [] h = refl
all_passed (c ∷ text) h =
    let e : not (nat_lt 127 c) ≡ true = grind (arith, nat_tests) in
    let r = all_passed text h.1 in
    rw e (omega (arith, r))

none_foreign : (text : List ℕ) → Each is_ascii text → first_foreign text ≡ None
none_foreign text h = go (position_or_len (λ b. nat_lt 127 b) text) (all_passed text h)
  where
    go : (n : ℕ) → n ≡ length text → cond (nat_lt n (length text)) (Some n) None ≡ None
    go n e = let over : nat_lt n (length text) ≡ false = grind (arith, nat_tests) in rw over refl

pub file_said : WithinLimits → (file : List ItemData) → IsWritable file → HasFewBrackets file → IsWithinLimits file → IsShort (file_text file) → IsFileOf (file_text file) file
file_said limits file h few within short =
    let x = file_wrote 0 0 0 file h few in
    let y = x.spelt.whole [] [] tt (lexes_none false) in
    let z : Lexes false (file_text file) x.tokens = subst (λ t. Lexes false t x.tokens) (append-nil (file_text file)) (subst (λ l. Lexes false (file_text file ++ []) l) (append-nil x.tokens) y) in
    let ts = z.tokens 0 in
    let d = x.formed (marked_words ts.0) ts.2 in
    (short, none_foreign (file_text file) z.ascii, (ts.0, ts.1, (limits (marked_words ts.0) file).1 (d.0, d.1, d.2, d.3, within)))

-- what a file holds that some text says
pub file_holds : WithinLimits → FewBrackets → (text : List ℕ) (file : List ItemData) → IsFileOf text file → IsWritable file × IsWithinLimits file × HasFewBrackets file
file_holds limits few text file h =
    let ts = h.2 in
    (file_writable (marked_words ts.0) file (all_real false 0 text ts.0 ts.1) ts.2, ((limits (marked_words ts.0) file).0 ts.2).4, few (marked_words ts.0) file ts.2)
