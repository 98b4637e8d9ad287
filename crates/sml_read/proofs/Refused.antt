-- The first fault of tokens is what the machine refuses.
use Rattle.std.proofs.Common.{◌≡◌, List, [], ◌∷◌, ◌++◌, Option, Some, None, Err, refl, ap, sym, ◌∙◌}
use Rattle.sml_text.specs.Tokens.{Token}
use Rattle.sml_tree.specs.Form.{File, part, Part, Bone, Form, Value, Fine, Deep, Many}
use Rattle.sml_tree.specs.Piece.{Piece, marked_words}
use Rattle.sml_tree.specs.Derive.{Marked, Derives, fine, plain, marked}
use Rattle.sml_read_parts.specs.declared.fault.Fault.{Fault}
use Rattle.sml_read_parts.specs.declared.fault.Fault.TheVariants as fault
use Rattle.sml_read_parts.specs.Machine.{run, TokenMove, Stuck, Goes, advance, go_on, finish, ended}
use Rattle.sml_read.specs.Faults.{FileFault, FaultOf, FormBegins, NoneBegins}
use Rattle.sml_read.proofs.Sound.{Backed, backed, finish_backed}
use Rattle.sml_read.proofs.Complete.{Ready, Takes, stepped}
use Rattle.sml_read.proofs.Faulty.{begins_all, begins_more}
use Rattle.sml_read.proofs.Late.{file_ready}

-- what is said of a token behind others that the machine takes
abbrev pub Behind : (g : Part) → TokenMove g → ((bones : List Bone) → Form (Value g) bones → Type 0) → Type 0
Behind g Stuck Q = ⊥
Behind g (Goes Fine after form') Q = Ready after × Q after form'
Behind g (Goes Deep after form') Q = ⊥
Behind g (Goes Many after form') Q = ⊥

-- a fine token that begins a form is taken, and the rest begins what is left
behind : (g : Part) (bones : List Bone) (form : Form (Value g) bones) (t : Piece) (ms : List Marked) → Ready bones → FormBegins g bones form (marked Fine t ∷ ms)
    → Behind g (advance g bones form t) (λ after form'. FormBegins g after form' ms)
behind g bones form t ms ready d = go (advance g bones form t) (stepped g bones form (marked Fine t ∷ (ms ++ d.0)) d.1 d.2 ready).0
  where
    go : (move : TokenMove g) → Takes move Fine (ms ++ d.0) d.1 → Behind g move (λ after form'. FormBegins g after form' ms)
    go Stuck h = absurd h
    go (Goes Fine after form') h = (h.1, (d.0, d.1, h.2))
    go (Goes Deep after form') h = absurd (cc h.0)
    go (Goes Many after form') h = absurd (cc h.0)

-- a token at fault by its mark
marked_at : (g : Part) (bones : List Bone) (form : Form (Value g) bones) (before after : List Piece) (t : Piece) → Ready bones → FormBegins g bones form (fine before ++ marked Deep t ∷ [])
    → run g bones form (before ++ t ∷ after) ≡ Err (fault.TooDeep t.at)
marked_at g bones form [] after t ready d = go (advance g bones form t) (stepped g bones form (marked Deep t ∷ d.0) d.1 d.2 ready).0
  where
    go : (move : TokenMove g) → Takes move Deep d.0 d.1 → go_on move t.at (λ b f. run g b f after) ≡ Err (fault.TooDeep t.at)
    go Stuck h = absurd h
    go (Goes Fine b f) h = absurd (cc h.0)
    go (Goes Deep b f) h = refl
    go (Goes Many b f) h = absurd (cc h.0)
marked_at g bones form (u ∷ before) after t ready d = go (advance g bones form u) (behind g bones form u (fine before ++ marked Deep t ∷ []) ready d) (λ b f. marked_at g b f before after t)
  where
    go : (move : TokenMove g) → Behind g move (λ b f. FormBegins g b f (fine before ++ marked Deep t ∷ []))
        → ((b : List Bone) (f : Form (Value g) b) → Ready b → FormBegins g b f (fine before ++ marked Deep t ∷ []) → run g b f (before ++ t ∷ after) ≡ Err (fault.TooDeep t.at))
        → go_on move u.at (λ b f. run g b f (before ++ t ∷ after)) ≡ Err (fault.TooDeep t.at)
    go Stuck h rec = absurd h
    go (Goes Fine b f) h rec = rec b f h.0 h.1
    go (Goes Deep b f) h rec = absurd h
    go (Goes Many b f) h rec = absurd h

-- the same of an item too many
many_at : (g : Part) (bones : List Bone) (form : Form (Value g) bones) (before after : List Piece) (t : Piece) → Ready bones → FormBegins g bones form (fine before ++ marked Many t ∷ [])
    → run g bones form (before ++ t ∷ after) ≡ Err (fault.TooMany t.at)
many_at g bones form [] after t ready d = go (advance g bones form t) (stepped g bones form (marked Many t ∷ d.0) d.1 d.2 ready).0
  where
    go : (move : TokenMove g) → Takes move Many d.0 d.1 → go_on move t.at (λ b f. run g b f after) ≡ Err (fault.TooMany t.at)
    go Stuck h = absurd h
    go (Goes Fine b f) h = absurd (cc h.0)
    go (Goes Deep b f) h = absurd (cc h.0)
    go (Goes Many b f) h = refl
many_at g bones form (u ∷ before) after t ready d = go (advance g bones form u) (behind g bones form u (fine before ++ marked Many t ∷ []) ready d) (λ b f. many_at g b f before after t)
  where
    go : (move : TokenMove g) → Behind g move (λ b f. FormBegins g b f (fine before ++ marked Many t ∷ []))
        → ((b : List Bone) (f : Form (Value g) b) → Ready b → FormBegins g b f (fine before ++ marked Many t ∷ []) → run g b f (before ++ t ∷ after) ≡ Err (fault.TooMany t.at))
        → go_on move u.at (λ b f. run g b f (before ++ t ∷ after)) ≡ Err (fault.TooMany t.at)
    go Stuck h rec = absurd h
    go (Goes Fine b f) h rec = rec b f h.0 h.1
    go (Goes Deep b f) h rec = absurd h
    go (Goes Many b f) h rec = absurd h

-- a token that nothing goes on with
stuck_at : (g : Part) (bones : List Bone) (form : Form (Value g) bones) (before after : List Piece) (t : Piece) → Ready bones → FormBegins g bones form (fine before) → NoneBegins g bones form (before ++ t ∷ [])
    → run g bones form (before ++ t ∷ after) ≡ Err (fault.Unexpected t.at)
stuck_at g bones form [] after t ready d none = go (advance g bones form t) (backed g bones form t)
  where
    go : (move : TokenMove g) → Backed g bones form t move → go_on move t.at (λ b f. run g b f after) ≡ Err (fault.Unexpected t.at)
    go Stuck h = refl
    go (Goes mark b f) h = absurd (none (marked mark t ∷ []) refl (begins_more g bones form t mark b f [] h (begins_all g b f)))
stuck_at g bones form (u ∷ before) after t ready d none = go (advance g bones form u) (backed g bones form u) (behind g bones form u (fine before) ready d) (λ b f. stuck_at g b f before after t)
  where
    go : (move : TokenMove g) → Backed g bones form u move → Behind g move (λ b f. FormBegins g b f (fine before))
        → ((b : List Bone) (f : Form (Value g) b) → Ready b → FormBegins g b f (fine before) → NoneBegins g b f (before ++ t ∷ []) → run g b f (before ++ t ∷ after) ≡ Err (fault.Unexpected t.at))
        → go_on move u.at (λ b f. run g b f (before ++ t ∷ after)) ≡ Err (fault.Unexpected t.at)
    go Stuck k h rec = absurd h
    go (Goes Fine b f) k h rec = rec b f h.0 h.1 (λ ms e d'. none (marked Fine u ∷ ms) (ap (λ l. u ∷ l) e) (begins_more g bones form u Fine b f ms k d'))
    go (Goes Deep b f) k h rec = absurd h
    go (Goes Many b f) k h rec = absurd h

-- tokens that end too early
ends_at : (g : Part) (bones : List Bone) (form : Form (Value g) bones) (ts : List Piece) → Ready bones → FormBegins g bones form (fine ts)
    → ((ms : List Marked) (v : Value g) → plain ms ≡ ts → Derives g bones form ms v → ⊥) → run g bones form ts ≡ Err fault.Ends
ends_at g bones form [] ready d none = go (finish g bones form) refl
  where
    go : (o : Option (Value g)) → finish g bones form ≡ o → ended o ≡ Err fault.Ends
    go None e = refl
    go (Some v) e = absurd (none [] v refl (finish_backed g bones form v e))
ends_at g bones form (u ∷ ts) ready d none = go (advance g bones form u) (backed g bones form u) (behind g bones form u (fine ts) ready d) (λ b f. ends_at g b f ts)
  where
    go : (move : TokenMove g) → Backed g bones form u move → Behind g move (λ b f. FormBegins g b f (fine ts))
        → ((b : List Bone) (f : Form (Value g) b) → Ready b → FormBegins g b f (fine ts) → ((ms : List Marked) (v : Value g) → plain ms ≡ ts → Derives g b f ms v → ⊥) → run g b f ts ≡ Err fault.Ends)
        → go_on move u.at (λ b f. run g b f ts) ≡ Err fault.Ends
    go Stuck k h rec = absurd h
    go (Goes Fine b f) k h rec = rec b f h.0 h.1 (λ ms v e d'. none (marked Fine u ∷ ms) v (ap (λ l. u ∷ l) e) (k ms v d'))
    go (Goes Deep b f) k h rec = absurd h
    go (Goes Many b f) k h rec = absurd h

-- the machine refuses tokens by their first fault
pub refused : (g : Part) (bones : List Bone) (form : Form (Value g) bones) (ts : List Piece) (f : Fault) → Ready bones → FaultOf g bones form ts f → run g bones form ts ≡ Err f
refused g bones form ts (fault.Unexpected at) ready h = ap (run g bones form) h.whole ∙ stuck_at g bones form h.before h.after h.this ready h.begun h.says ∙ ap (λ n. Err (fault.Unexpected n)) (sym h.place)
refused g bones form ts (fault.TooDeep at) ready h = ap (run g bones form) h.whole ∙ marked_at g bones form h.before h.after h.this ready h.says ∙ ap (λ n. Err (fault.TooDeep n)) (sym h.place)
refused g bones form ts (fault.TooMany at) ready h = ap (run g bones form) h.whole ∙ many_at g bones form h.before h.after h.this ready h.says ∙ ap (λ n. Err (fault.TooMany n)) (sym h.place)
refused g bones form ts fault.Ends ready h = ends_at g bones form ts ready h.0 h.1

pub one_fault : (ts us : List Token) (f h : Fault) → ts ≡ us → FileFault (marked_words ts) f → FileFault (marked_words us) h → f ≡ h
one_fault ts us f h e a b =
    let p = refused (File 0 0 0) _ (part (File 0 0 0)) (marked_words ts) f file_ready a in
    let q = refused (File 0 0 0) _ (part (File 0 0 0)) (marked_words us) h file_ready b in
    let r = ap (λ l. run (File 0 0 0) _ (part (File 0 0 0)) (marked_words l)) e in cc
