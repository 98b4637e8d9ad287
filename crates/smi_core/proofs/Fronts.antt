-- Bytes without a line feed, and bytes fed line by line.
use Rattle.std.proofs.Common.{◌≡◌, ◌+◌, ◌==◌, ℕ, Bool, false, cond, List, [], ◌∷◌, ◌++◌, Option, sym, refl, ap, ◌∙◌, subst, append_assoc, append-nil, length, take, drop, take-append-drop, arith, Result, Ok, Err}
use Rattle.std.specs.Prelude.{◌⊎◌}
use Rattle.std.proofs.Common.{inl, inr}
use Rattle.smi_core.specs.Feeds.{Feeds, IsPending, Went, FedTo, Halted, HasNoEnd}
use Rattle.smi_core.proofs.Io.{appends_none, appends_more}
use Rattle.smi_core.proofs.Fed.{feeds_append}

-- one byte more that is no line feed
pub none_more : (xs : List ℕ) (b : ℕ) → HasNoEnd xs → (b == 10) ≡ false → HasNoEnd (xs ++ b ∷ [])
none_more [] b h is = (is, tt)
none_more (x ∷ xs) b h is = (h.0, none_more xs b h.1 is)

module _ {S : Type 0} (makes : S → List ℕ → List ℕ → S → Type 0) where
  -- bytes without a line feed write nothing, and stand in the line
  feeds_front : (m : S) (line bytes : List ℕ) → HasNoEnd bytes → Feeds makes m line bytes [] m (line ++ bytes)
  feeds_front m line [] h = (refl, refl, append-nil line)
  feeds_front m line (b ∷ bs) h =
      let End : Type 0 = (mid : S) × (one : List ℕ) × (rest : List ℕ) × makes m line one mid
      × Feeds makes mid [] bs rest m (line ++ b ∷ bs) × (◌≡◌ {A = List ℕ} [] (one ++ rest)) in
      let P : Bool → Type 0 = λ c. cond c End (Feeds makes m (line ++ b ∷ []) bs [] m (line ++ b ∷ bs)) in
      let there = append_assoc line (b ∷ []) bs in
      subst P (sym h.0) (subst (Feeds makes m (line ++ b ∷ []) bs [] m) there (feeds_front m (line ++ b ∷ []) bs h.1))

  -- so all of them were fed
  pub went_front : (m : S) (line bytes : List ℕ) (old : Option (List ℕ)) (kept : List ℕ) (over : Bool)
      → HasNoEnd bytes → IsPending kept over (line ++ bytes) → Went makes m line bytes old old m kept over
  went_front m line bytes old kept over h p = record {
    out = [];
    left = line ++ bytes;
    pending = p;
    feeds = feeds_front m line bytes h;
    written = appends_none old;
  }

  -- bytes and then more, from the one line that was left
  went_then : (m : S) (line xs ys : List ℕ) (old mid new : Option (List ℕ)) (m2 m3 : S)
      (kept : List ℕ) (over : Bool) (kept3 : List ℕ) (over3 : Bool)
      → (w : Went makes m line xs old mid m2 kept over) → Went makes m2 w.left ys mid new m3 kept3 over3
      → Went makes m line (xs ++ ys) old new m3 kept3 over3
  went_then m line xs ys old mid new m2 m3 kept over kept3 over3 w v = record {
    out = w.out ++ v.out;
    left = v.left;
    pending = v.pending;
    feeds = feeds_append makes m line xs w.out m2 w.left ys v.out m3 v.left w.feeds v.feeds;
    written = appends_more old mid new w.out v.out w.written v.written;
  }

  -- bytes to a place and then to a later one
  pub fed_then : (m : S) (line chunk rest more : List ℕ) (old mid new : Option (List ℕ)) (m2 m3 : S)
      (kept : List ℕ) (over : Bool) (kept3 : List ℕ) (over3 : Bool)
      → FedTo makes m line chunk rest old mid m2 kept over
      → ((l : List ℕ) → IsPending kept over l → FedTo makes m2 l rest more mid new m3 kept3 over3)
      → FedTo makes m line chunk more old new m3 kept3 over3
  fed_then m line chunk rest more old mid new m2 m3 kept over kept3 over3 f next =
      let w = f.went in
      let g = next w.left w.pending in
      record {
        fed = f.fed ++ g.fed;
        split = f.split ∙ ap (λ l. f.fed ++ l) g.split ∙ sym (append_assoc f.fed g.fed more);
        went = went_then m line f.fed g.fed old mid new m2 m3 kept over kept3 over3 w g.went;
      }

  -- a fault that is told as another
  told_as : {unwritten : List ℕ} (fault fault2 : Type 0)
      → (fault → fault2) → ((unwritten ≡ []) ⊎ fault) → (unwritten ≡ []) ⊎ fault2
  told_as fault fault2 told (inl e) = inl e
  told_as fault fault2 told (inr f) = inr (told f)

  -- bytes to a place and then to a fault
  pub halted_then : (m : S) (line chunk rest : List ℕ) (fault fault2 : Type 0) (old mid new : Option (List ℕ))
      (m2 m3 : S) (kept : List ℕ) (over : Bool)
      → (fault → fault2) → FedTo makes m line chunk rest old mid m2 kept over
      → ((l : List ℕ) → IsPending kept over l → Halted makes m2 l rest fault mid new m3)
      → Halted makes m line chunk fault2 old new m3
  halted_then m line chunk rest fault fault2 old mid new m2 m3 kept over told f next =
      let w = f.went in
      let v = next w.left w.pending in
      let fed = f.fed ++ v.fed in
      let out = v.out ++ v.unwritten in
      let both = feeds_append makes m line f.fed w.out m2 w.left v.fed out m3 v.left w.feeds v.feeds in
      record {
        fed = fed;
        unfed = v.unfed;
        out = w.out ++ v.out;
        unwritten = v.unwritten;
        left = v.left;
        split = f.split ∙ ap (λ l. f.fed ++ l) v.split ∙ sym (append_assoc f.fed v.fed v.unfed);
        feeds = subst (λ o. Feeds makes m line fed o m3 v.left) (sym (append_assoc w.out v.out v.unwritten)) both;
        written = appends_more old mid new w.out v.out w.written v.written;
        whole = told_as fault fault2 told v.whole;
      }

-- a prefix and what is behind it
parts : (bytes front behind : List ℕ) (n : ℕ) → front ≡ take n bytes → behind ≡ drop n bytes → bytes ≡ front ++ behind
parts bytes front behind n f b =
    sym (take-append-drop n bytes) ∙ ap (λ l. l ++ drop n bytes) (sym f) ∙ ap (λ l. front ++ l) (sym b)

-- a list of no length is empty
nil_of : (xs : List ℕ) → length xs ≡ 0 → xs ≡ []
nil_of [] e = refl
nil_of (x ∷ xs) e = absurd (omega (arith, e))

-- nothing is behind a prefix that is as long as all the bytes
pub all_front : (bytes front behind : List ℕ) (n : ℕ) → front ≡ take n bytes → behind ≡ drop n bytes
    → length behind + n ≡ length bytes → n ≡ length bytes → bytes ≡ front ++ []
all_front bytes front behind n f b l e =
    let none : length behind ≡ 0 = omega (arith, l, e) in
    parts bytes front behind n f b ∙ ap (λ r. front ++ r) (nil_of behind none)

-- a prefix, the line feed behind it, and more
pub front_and_end : (bytes front behind more : List ℕ) (n : ℕ) → front ≡ take n bytes → behind ≡ drop n bytes
    → drop n bytes ≡ 10 ∷ drop (n + 1) bytes → more ≡ drop 1 behind → bytes ≡ (front ++ 10 ∷ []) ++ more
front_and_end bytes front behind more n f b e m =
    let r : List ℕ = drop (n + 1) bytes in
    let is : behind ≡ 10 ∷ r = b ∙ e in
    let rest : r ≡ more = sym (ap (drop 1) is) ∙ sym m in
    let ends = ap (λ l. front ++ l) (is ∙ ap (λ l. 10 ∷ l) rest) in
    parts bytes front behind n f b ∙ ends ∙ sym (append_assoc front (10 ∷ []) more)

-- the fault of a result, or one given
abbrev fault_in : {A E : Type 0} → E → Result A E → E
fault_in d (Ok a) = d
fault_in d (Err e) = e

-- the same fault, as the error of another type
pub same_fault : {A B E : Type 0} (x y : E)
    → ◌≡◌ {A = Result A E} (Err x) (Err y) → ◌≡◌ {A = Result B E} (Err x) (Err y)
same_fault x y f = ap (λ e. Err e) (ap (fault_in x) f)
