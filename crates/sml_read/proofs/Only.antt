-- Tokens are at most one file, and then have no fault.
use Rattle.std.proofs.Common.{◌≡◌, ℕ, Err, length, false, List, [], ◌∷◌, ◌++◌, Ok, refl, ap, sym, ◌∙◌, subst, append_assoc}
use Rattle.sml_text.specs.declared.source.Source.TheVariants.{Domain}
use Rattle.sml_text.specs.Stream.{tokens_from}
use Rattle.sml_text.specs.Tokens.{Token}
use Rattle.sml_tree.specs.Syntax.{ItemData}
use Rattle.sml_tree.specs.Form.{File, part, Part, Bone, Form, Value, Mark, Fine, Deep, Many}
use Rattle.sml_tree.specs.Piece.{Piece, marked_words}
use Rattle.sml_tree.specs.Derive.{IsFile, Marked, Derives, fine, plain, marked}
use Rattle.sml_read_parts.specs.declared.fault.Fault.{Fault}
use Rattle.sml_read_parts.specs.declared.fault.Fault.TheVariants as fault
use Rattle.sml_read_parts.specs.declared.fault.Stop.{Stop}
use Rattle.sml_read_parts.specs.declared.fault.Stop.TheVariants as stop
use Rattle.sml_read.specs.declared.error.ReadErrorKind.TheVariants.{Memory}
use Rattle.sml_read_parts.specs.Left.{left}
use Rattle.sml_read_parts.specs.Reads.{Gives}
use Rattle.sml_read.specs.Promise.{error_of, read_refusal}
use Rattle.sml_read_parts.specs.Machine.{run, TokenMove, Stuck, Goes, advance}
use Rattle.sml_read.specs.Faults.{FileFault, FaultOf}
use Rattle.sml_read.proofs.Complete.{complete, Ready, Takes, stepped}
use Rattle.sml_read.proofs.Late.{file_ready}

-- what is derived, the machine reads
read : (ts : List Token) (file : List ItemData) → IsFile (marked_words ts) file → run (File 0 0 0) _ (part (File 0 0 0)) (marked_words ts) ≡ Ok file
read ts file d = complete (File 0 0 0) _ (part (File 0 0 0)) (marked_words ts) file d file_ready

-- what the machine takes of a text's tokens is the file that they say
pub said : (text : List ℕ) (ts : List Token) (file v : List ItemData) → tokens_from Domain 0 text ≡ ts → run (File 0 0 0) _ (part (File 0 0 0)) (left false 0 text) ≡ Ok v → IsFile (marked_words ts) file → v ≡ file
said text ts file v e h d = let p = read ts file d in let r = ap (λ l. run (File 0 0 0) _ (part (File 0 0 0)) (marked_words l)) e in cc

-- where a text says a file, memory alone stops the reading
pub memory_alone : {X : Type 0} (view : X → List ItemData) (text : List ℕ) (ts : List Token) (file : List ItemData) (s : Stop) → tokens_from Domain 0 text ≡ ts
    → Gives view (Err s) (run (File 0 0 0) _ (part (File 0 0 0)) (left false 0 text)) → IsFile (marked_words ts) file → error_of s (length text) ≡ read_refusal Memory 0
memory_alone view text ts file stop.Memory e h d = refl
memory_alone view text ts file (stop.Fault f) e h d = let p = read ts file d in let r = ap (λ l. run (File 0 0 0) _ (part (File 0 0 0)) (marked_words l)) e in absurd (cc h)

pub one_file : (ts us : List Token) (file other : List ItemData) → ts ≡ us → IsFile (marked_words ts) file → IsFile (marked_words us) other → file ≡ other
one_file ts us file other e a b = let p = read ts file a in let q = read us other b in let r = ap (λ l. run (File 0 0 0) _ (part (File 0 0 0)) (marked_words l)) e in cc

-- two derivations that begin with the same tokens have the same mark against the next
same_mark : (g : Part) (bones : List Bone) (form : Form (Value g) bones) (before : List Piece) (t : Piece) (x y : Mark) (ms ns : List Marked) (v w : Value g) → Ready bones
    → Derives g bones form (fine before ++ marked x t ∷ ms) v → Derives g bones form (fine before ++ marked y t ∷ ns) w → x ≡ y
same_mark g bones form [] t x y ms ns v w ready a b =
    go (advance g bones form t) (stepped g bones form (marked x t ∷ ms) v a ready).0 (stepped g bones form (marked y t ∷ ns) w b ready).0
  where
    go : (move : TokenMove g) → Takes move x ms v → Takes move y ns w → x ≡ y
    go Stuck p q = absurd p
    go (Goes mark after form') p q = sym p.0 ∙ q.0
same_mark g bones form (u ∷ before) t x y ms ns v w ready a b =
    go (advance g bones form u) (stepped g bones form (marked Fine u ∷ (fine before ++ marked x t ∷ ms)) v a ready).0 (stepped g bones form (marked Fine u ∷ (fine before ++ marked y t ∷ ns)) w b ready).0
    (λ after form'. same_mark g after form' before t x y ms ns v w)
  where
    go : (move : TokenMove g) → Takes move Fine (fine before ++ marked x t ∷ ms) v → Takes move Fine (fine before ++ marked y t ∷ ns) w
        → ((after : List Bone) (form' : Form (Value g) after) → Ready after → Derives g after form' (fine before ++ marked x t ∷ ms) v → Derives g after form' (fine before ++ marked y t ∷ ns) w → x ≡ y) → x ≡ y
    go Stuck p q rec = absurd p
    go (Goes mark after form') p q rec = rec after form' p.1 p.2 q.2

fine_append : (ts us : List Piece) → fine (ts ++ us) ≡ fine ts ++ fine us
fine_append [] us = refl
fine_append (t ∷ ts) us = ap (λ l. marked Fine t ∷ l) (fine_append ts us)

plain_fine : (ts : List Piece) → plain (fine ts) ≡ ts
plain_fine [] = refl
plain_fine (t ∷ ts) = ap (λ l. t ∷ l) (plain_fine ts)

fine_deep : Fine ≡ Deep → ⊥
fine_deep e = absurd (cc e)

fine_many : Fine ≡ Many → ⊥
fine_many e = absurd (cc e)

-- a form that derives the tokens has no first fault of them
no_first : (g : Part) (bones : List Bone) (form : Form (Value g) bones) (ts : List Piece) (v : Value g) (f : Fault) → Ready bones → Derives g bones form (fine ts) v → FaultOf g bones form ts f → ⊥
no_first g bones form ts v (fault.Unexpected at) ready a b =
    let d : Derives g bones form (fine ((b.before ++ b.this ∷ []) ++ b.after)) v = rw (append_assoc b.before (b.this ∷ []) b.after, sym b.whole) a in
    b.says (fine (b.before ++ b.this ∷ [])) (plain_fine (b.before ++ b.this ∷ [])) (fine b.after, v, subst (λ l. Derives g bones form l v) (fine_append (b.before ++ b.this ∷ []) b.after) d)
no_first g bones form ts v (fault.TooDeep at) ready a b =
    let d : Derives g bones form (fine b.before ++ marked Fine b.this ∷ fine b.after) v = subst (λ l. Derives g bones form l v) (ap fine b.whole ∙ fine_append b.before (b.this ∷ b.after)) a in
    let s = b.says in
    fine_deep (same_mark g bones form b.before b.this Fine Deep (fine b.after) s.0 v s.1 ready d (subst (λ l. Derives g bones form l s.1) (append_assoc (fine b.before) (marked Deep b.this ∷ []) s.0) s.2))
no_first g bones form ts v (fault.TooMany at) ready a b =
    let d : Derives g bones form (fine b.before ++ marked Fine b.this ∷ fine b.after) v = subst (λ l. Derives g bones form l v) (ap fine b.whole ∙ fine_append b.before (b.this ∷ b.after)) a in
    let s = b.says in
    fine_many (same_mark g bones form b.before b.this Fine Many (fine b.after) s.0 v s.1 ready d (subst (λ l. Derives g bones form l s.1) (append_assoc (fine b.before) (marked Many b.this ∷ []) s.0) s.2))
no_first g bones form ts v fault.Ends ready a b = b.1 (fine ts) v (plain_fine ts) a

pub no_fault : (ts us : List Token) (file : List ItemData) (f : Fault) → ts ≡ us → IsFile (marked_words ts) file → FileFault (marked_words us) f → ⊥
no_fault ts us file f e a b =
    no_first (File 0 0 0) _ (part (File 0 0 0)) (marked_words us) file f file_ready (subst (λ l. IsFile (marked_words l) file) e a) b
