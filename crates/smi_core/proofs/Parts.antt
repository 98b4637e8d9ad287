-- What was fed part by part.
use Rattle.std.proofs.Common.{◌≡◌, ◌==◌, ℕ, Bool, true, cond, List, [], ◌∷◌, ◌++◌, Option, sym, refl, ap, ◌∙◌, subst, append_assoc, append-nil}
use Rattle.std.specs.Prelude.{◌⊎◌}
use Rattle.std.proofs.Common.{inl, inr}
use Rattle.std.specs.Io.KnownBytes.{Appends}
use Rattle.sml_text.specs.Lines.{Outputs, lines_of}
use Rattle.smi_core.specs.Feeds.{Feeds, IsPending, Torn, Went, Halted, FirstLines, WholeLines}
use Rattle.smi_core.proofs.Io.{appends_none, appends_more}
use Rattle.smi_core.proofs.Fed.{feeds_none, feeds_append, fed, fed_lines, fed_all, onto_nothing}

module _ {S : Type 0} (makes : S → List ℕ → List ℕ → S → Type 0) where
  -- a fault that is told as another
  told_still : {unwritten : List ℕ} (fault fault2 : Type 0) → (fault → fault2) → ((unwritten ≡ []) ⊎ fault) → (unwritten ≡ []) ⊎ fault2
  told_still fault fault2 told (inl e) = inl e
  told_still fault fault2 told (inr f) = inr (told f)

  pub went_none : (m : S) (line : List ℕ) (old : Option (List ℕ)) (kept : List ℕ) (over : Bool) → IsPending kept over line → Went makes m line [] old old m kept over
  went_none m line old kept over p = record { out = []; left = line; pending = p; feeds = feeds_none makes m line; written = appends_none old }

  pub went_more : (m : S) (line xs ys : List ℕ) (old mid new : Option (List ℕ)) (m2 m3 : S) (kept : List ℕ) (over : Bool) (kept3 : List ℕ) (over3 : Bool) → Went makes m line xs old mid m2 kept over → ((l : List ℕ) → IsPending kept over l → Went makes m2 l ys mid new m3 kept3 over3) → Went makes m line (xs ++ ys) old new m3 kept3 over3
  went_more m line xs ys old mid new m2 m3 kept over kept3 over3 w next =
      let v = next w.left w.pending in
      record {
        out = w.out ++ v.out;
        left = v.left;
        pending = v.pending;
        feeds = feeds_append makes m line xs w.out m2 w.left ys v.out m3 v.left w.feeds v.feeds;
        written = appends_more old mid new w.out v.out w.written v.written;
      }

  pub halted_more : (m : S) (line xs ys : List ℕ) (fault : Type 0) (old mid new : Option (List ℕ)) (m2 m3 : S) (kept : List ℕ) (over : Bool) → Went makes m line xs old mid m2 kept over → ((l : List ℕ) → IsPending kept over l → Halted makes m2 l ys fault mid new m3) → Halted makes m line (xs ++ ys) fault old new m3
  halted_more m line xs ys fault old mid new m2 m3 kept over w next =
      let v = next w.left w.pending in
      record {
        fed = xs ++ v.fed;
        unfed = v.unfed;
        out = w.out ++ v.out;
        unwritten = v.unwritten;
        left = v.left;
        split = ap (λ l. xs ++ l) v.split ∙ sym (append_assoc xs v.fed v.unfed);
        feeds = subst (λ o. Feeds makes m line (xs ++ v.fed) o m3 v.left) (sym (append_assoc w.out v.out v.unwritten)) (feeds_append makes m line xs w.out m2 w.left v.fed (v.out ++ v.unwritten) m3 v.left w.feeds v.feeds);
        written = appends_more old mid new w.out v.out w.written v.written;
        whole = v.whole;
      }

  pub halted_before : (m : S) (line xs ys : List ℕ) (fault fault2 : Type 0) (old new : Option (List ℕ)) (m2 : S) → (fault → fault2) → Halted makes m line xs fault old new m2 → Halted makes m line (xs ++ ys) fault2 old new m2
  halted_before m line xs ys fault fault2 old new m2 told h = record {
    fed = h.fed;
    unfed = h.unfed ++ ys;
    out = h.out;
    unwritten = h.unwritten;
    left = h.left;
    split = ap (λ l. l ++ ys) h.split ∙ append_assoc h.fed h.unfed ys;
    feeds = h.feeds;
    written = h.written;
    whole = told_still fault fault2 told h.whole;
  }

  -- nothing more was fed
  pub halted_here : (m : S) (line xs ys : List ℕ) (fault : Type 0) (old new : Option (List ℕ)) (m2 : S) (kept : List ℕ) (over : Bool) → Went makes m line xs old new m2 kept over → Halted makes m line (xs ++ ys) fault old new m2
  halted_here m line xs ys fault old new m2 kept over w = record {
    fed = xs;
    unfed = ys;
    out = w.out;
    unwritten = [];
    left = w.left;
    split = refl;
    feeds = subst (λ o. Feeds makes m line xs o m2 w.left) (sym (append-nil w.out)) w.feeds;
    written = w.written;
    whole = inl refl;
  }

  -- a line feed ends the line
  pub went_line : (m m2 : S) (line out : List ℕ) (b : ℕ) (old new : Option (List ℕ)) (kept : List ℕ) (over : Bool) → (b == 10) ≡ true → makes m line out m2 → Appends old new out → IsPending kept over [] → Went makes m line (b ∷ []) old new m2 kept over
  went_line m m2 line out b old new kept over is made w p =
      let P : Bool → Type 0 = λ c. cond c ((mid : S) × (one : List ℕ) × (rest : List ℕ) × makes m line one mid × Feeds makes mid [] [] rest m2 [] × (out ≡ one ++ rest)) (Feeds makes m (line ++ b ∷ []) [] out m2 []) in
      record { out = out; left = []; pending = p; feeds = subst P (sym is) (m2, out, [], made, (refl, refl, refl), sym (append-nil out)); written = w }

  -- a line that was not made, or made and not written whole
  pub halted_line : (m m2 : S) (line : List ℕ) (b : ℕ) (fault : Type 0) (old new : Option (List ℕ)) → (b == 10) ≡ true → Torn makes m line fault old new m2 → Halted makes m line (b ∷ []) fault old new m2
  halted_line m m2 line b fault old new is (inl h) = record { fed = []; unfed = b ∷ []; out = []; unwritten = []; left = line; split = refl; feeds = (refl, h.0, refl); written = h.1; whole = inl refl }
  halted_line m m2 line b fault old new is (inr h) =
      let P : Bool → Type 0 = λ c. cond c ((mid : S) × (one : List ℕ) × (rest : List ℕ) × makes m line one mid × Feeds makes mid [] [] rest m2 [] × (h.1 ++ h.2 ≡ one ++ rest)) (Feeds makes m (line ++ b ∷ []) [] (h.1 ++ h.2) m2 []) in
      record { fed = b ∷ []; unfed = []; out = h.1; unwritten = h.2; left = []; split = refl; feeds = subst P (sym is) (m2, h.1 ++ h.2, [], h.3, (refl, refl, refl), sym (append-nil (h.1 ++ h.2))); written = h.4; whole = inr h.0 }

  some_more : (ended : Type 0) (next : List ℕ) (more : List (List ℕ)) → next ∷ more ≡ [] → ended
  some_more ended next more e = absurd (cc e)

  pub first_lines : (m : S) (text : List ℕ) (ended fault fault2 : Type 0) (old new : Option (List ℕ)) (m2 : S) → (fault → fault2) → Halted makes m [] text fault old new m2 → FirstLines makes m text ended fault2 old new m2
  first_lines m text ended fault fault2 old new m2 told h =
      let k = fed_lines makes m [] h.fed h.unfed (h.out ++ h.unwritten) m2 h.left h.feeds in
      record {
        lines = k.0;
        more = k.1 ∷ k.2;
        split = ap lines_of h.split ∙ (sym (onto_nothing makes (h.fed ++ h.unfed)) ∙ k.3);
        ends = some_more ended k.1 k.2;
        out = h.out;
        unwritten = h.unwritten;
        outputs = k.4;
        written = h.written;
        whole = told_still fault fault2 told h.whole;
      }

  pub halted_now : (m : S) (line xs : List ℕ) (fault : Type 0) (old new : Option (List ℕ)) (m2 : S) (kept : List ℕ) (over : Bool) → Went makes m line xs old new m2 kept over → Halted makes m line xs fault old new m2
  halted_now m line xs fault old new m2 kept over w = subst (λ l. Halted makes m line l fault old new m2) (append-nil xs) (halted_here m line xs [] fault old new m2 kept over w)

  -- the last line was made and written whole
  pub whole : (m : S) (text : List ℕ) (old mid new : Option (List ℕ)) (m2 m3 : S) (kept : List ℕ) (over : Bool) → (w : Went makes m [] text old mid m2 kept over) → (last : List ℕ) → makes m2 w.left last m3 → Appends mid new last
      → (out : List ℕ) × Appends old new out × Outputs makes m (lines_of text) out m3
  whole m text old mid new m2 m3 kept over w last made written = (
    w.out ++ last,
    appends_more old mid new w.out last w.written written,
    subst (λ ls. Outputs makes m ls (w.out ++ last) m3) (onto_nothing makes text) (fed makes m [] text w.out m2 w.left last m3 w.feeds made),
  )

  -- the last line was not made, or not written whole
  pub torn : (m : S) (text : List ℕ) (ended fault fault2 : Type 0) (old mid new : Option (List ℕ)) (m2 m3 : S) (kept : List ℕ) (over : Bool) → ended → (fault → fault2) → (w : Went makes m [] text old mid m2 kept over)
      → Torn makes m2 w.left fault mid new m3 → FirstLines makes m text ended fault2 old new m3
  torn m text ended fault fault2 old mid new m2 m3 kept over end told w (inl h) =
      let out = appends_more old mid new w.out [] w.written h.1 in
      first_lines m text ended fault fault2 old new m3 told (record {
        fed = text;
        unfed = [];
        out = w.out;
        unwritten = [];
        left = w.left;
        split = sym (append-nil text);
        feeds = subst (λ o. Feeds makes m [] text o m3 w.left) (sym (append-nil w.out)) (subst (λ n. Feeds makes m [] text w.out n w.left) (sym h.0) w.feeds);
        written = subst (Appends old new) (append-nil w.out) out;
        whole = inl refl;
      })
  torn m text ended fault fault2 old mid new m2 m3 kept over end told w (inr h) = record {
    lines = lines_of text;
    more = [];
    split = sym (append-nil (lines_of text));
    ends = λ _. end;
    out = w.out ++ h.1;
    unwritten = h.2;
    outputs = subst (λ o. Outputs makes m (lines_of text) o m3) (sym (append_assoc w.out h.1 h.2)) (subst (λ ls. Outputs makes m ls (w.out ++ (h.1 ++ h.2)) m3) (onto_nothing makes text) (fed makes m [] text w.out m2 w.left (h.1 ++ h.2) m3 w.feeds h.3));
    written = appends_more old mid new w.out h.1 w.written h.4;
    whole = inr (told h.0);
  }

  -- all lines but the last were made
  pub whole_lines : (m : S) (text : List ℕ) (old new : Option (List ℕ)) (m2 : S) (kept : List ℕ) (over : Bool) → Went makes m [] text old new m2 kept over → WholeLines makes m text old new m2
  whole_lines m text old new m2 kept over w =
      let k = fed_all makes m [] text w.out m2 w.left w.feeds in
      record {
        lines = k.0;
        last = w.left;
        split = sym (onto_nothing makes text) ∙ k.1;
        out = w.out;
        outputs = k.2;
        written = w.written;
      }
