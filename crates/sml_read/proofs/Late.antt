-- What the machine says of a text's tokens.
use Rattle.std.proofs.Common.{◌≡◌, ℕ, List, [], ◌∷◌, length, Ok, Err, None, false, refl, inl, inr}
use Rattle.sml_text.specs.declared.source.Source.TheVariants.{Domain}
use Rattle.sml_text.specs.Tokens.{Token, TokensOf}
use Rattle.sml_text.specs.Stream.{tokens_from}
use Rattle.sml_tree.specs.Syntax.{ItemData}
use Rattle.sml_tree.specs.Form.{File, part, P, Files}
use Rattle.sml_tree.specs.Piece.{marked_words}
use Rattle.sml_tree.specs.Derive.{IsFile}
use Rattle.sml_read_parts.specs.declared.fault.Fault.{Fault}
use Rattle.sml_read_parts.specs.declared.fault.Fault.TheVariants as fault
use Rattle.sml_read_parts.specs.declared.fault.Stop.{Stop}
use Rattle.sml_read_parts.specs.declared.fault.Stop.TheVariants as stop
use Rattle.sml_read_parts.specs.Left.{left}
use Rattle.sml_read_parts.specs.Machine.{run}
use Rattle.sml_read_parts.specs.Reads.{Gives}
use Rattle.sml_read.specs.Faults.{FileFault}
use Rattle.sml_read.specs.Promise.{IsShort, first_foreign, Cause, error_of}
use Rattle.sml_read.proofs.Sound.{sound}
use Rattle.sml_read.proofs.Complete.{Ready}
use Rattle.sml_read.proofs.Faulty.{faulty}

-- nothing follows a file
pub file_ready : Ready (P Files ∷ [])
file_ready = (λ c e. absurd (cc e), tt)

-- what the machine takes of a text's tokens is its file
pub derived : (text : List ℕ) (ts : List Token) (file : List ItemData) → tokens_from Domain 0 text ≡ ts → run (File 0 0 0) _ (part (File 0 0 0)) (left false 0 text) ≡ Ok file → IsFile (marked_words ts) file
derived text ts file e h = rw e at (sound (File 0 0 0) _ (part (File 0 0 0)) (left false 0 text) file h)

-- where the machine refuses them, it names their first fault
pub failed : (text : List ℕ) (ts : List Token) (f : Fault) → tokens_from Domain 0 text ≡ ts → run (File 0 0 0) _ (part (File 0 0 0)) (left false 0 text) ≡ Err f → FileFault (marked_words ts) f
failed text ts f e h = rw e at (faulty (File 0 0 0) _ (part (File 0 0 0)) (left false 0 text) f file_ready h)

-- the refusal of a text that has tokens
pub late : {X : Type 0} (view : X → List ItemData) (text : List ℕ) (ts : List Token) (s : Stop) → IsShort text → first_foreign text ≡ None → TokensOf Domain text ts
    → tokens_from Domain 0 text ≡ ts → Gives view (Err s) (run (File 0 0 0) _ (part (File 0 0 0)) (left false 0 text)) → Cause text (error_of s (length text)).kind (error_of s (length text)).offset
late view text ts stop.Memory short ascii tokens e h = ((short, ascii, (ts, tokens)), refl)
late view text ts (stop.Fault (fault.Unexpected at)) short ascii tokens e h = inl (short, ascii, (ts, tokens, failed text ts (fault.Unexpected at) e h))
late view text ts (stop.Fault (fault.TooDeep at)) short ascii tokens e h = (short, ascii, (ts, tokens, failed text ts (fault.TooDeep at) e h))
late view text ts (stop.Fault (fault.TooMany at)) short ascii tokens e h = (short, ascii, (ts, tokens, failed text ts (fault.TooMany at) e h))
late view text ts (stop.Fault fault.Ends) short ascii tokens e h = inr ((short, ascii, (ts, tokens, failed text ts fault.Ends e h)), refl)
