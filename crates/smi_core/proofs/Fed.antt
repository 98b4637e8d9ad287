-- Bytes fed one after another write what their lines write.
use Rattle.std.proofs.Common.{◌≡◌, ℕ, ◌==◌, Bool, true, false, cond, List, [], ◌∷◌, ◌++◌, sym, refl, ap, ◌∙◌, subst, append_assoc, append-nil}
use Rattle.sml_text.specs.Lines.{onto, lines_of, Outputs}
use Rattle.smi_core.specs.Feeds.{Feeds}

module _ {S : Type 0} (makes : S → List ℕ → List ℕ → S → Type 0) where
  pub feeds_none : (m : S) (line : List ℕ) → Feeds makes m line [] [] m line
  feeds_none m line = (refl, refl, refl)

  feeds_end : (b : Bool) (m : S) (line : List ℕ) (x : ℕ) (xs out : List ℕ) (m2 : S) (line2 : List ℕ) (ys out2 : List ℕ) (m3 : S) (line3 : List ℕ)
      → ((n : S) (l o : List ℕ) → Feeds makes n l xs o m2 line2 → Feeds makes n l (xs ++ ys) (o ++ out2) m3 line3)
      → cond b ((mid : S) × (one : List ℕ) × (rest : List ℕ) × makes m line one mid × Feeds makes mid [] xs rest m2 line2 × (out ≡ one ++ rest)) (Feeds makes m (line ++ x ∷ []) xs out m2 line2)
      → cond b ((mid : S) × (one : List ℕ) × (rest : List ℕ) × makes m line one mid × Feeds makes mid [] (xs ++ ys) rest m3 line3 × (out ++ out2 ≡ one ++ rest)) (Feeds makes m (line ++ x ∷ []) (xs ++ ys) (out ++ out2) m3 line3)
  feeds_end true m line x xs out m2 line2 ys out2 m3 line3 go p =
      (p.0, p.1, p.2 ++ out2, p.3, go p.0 [] p.2 p.4, ap (λ l. l ++ out2) p.5 ∙ append_assoc p.1 p.2 out2)
  feeds_end false m line x xs out m2 line2 ys out2 m3 line3 go p = go m (line ++ x ∷ []) out p

  -- bytes and then more
  pub feeds_append : (m : S) (line xs : List ℕ) (out : List ℕ) (m2 : S) (line2 : List ℕ) (ys out2 : List ℕ) (m3 : S) (line3 : List ℕ) → Feeds makes m line xs out m2 line2 → Feeds makes m2 line2 ys out2 m3 line3 → Feeds makes m line (xs ++ ys) (out ++ out2) m3 line3
  feeds_append m line [] out m2 line2 ys out2 m3 line3 p q =
      let P : List ℕ → Type 0 = λ o. Feeds makes m line ys (o ++ out2) m3 line3 in
      let Q : S → Type 0 = λ n. Feeds makes n line2 ys out2 m3 line3 in
      let R : List ℕ → Type 0 = λ l. Feeds makes m l ys out2 m3 line3 in
      subst P (sym p.0) (subst R p.2 (subst Q p.1 q))
  feeds_append m line (x ∷ xs) out m2 line2 ys out2 m3 line3 p q =
      feeds_end (x == 10) m line x xs out m2 line2 ys out2 m3 line3 (λ n l o f. feeds_append n l xs o m2 line2 ys out2 m3 line3 f q) p

  onto_front : (line : List ℕ) (x : ℕ) (ls : List (List ℕ)) → onto (line ++ x ∷ []) ls ≡ onto line (onto (x ∷ []) ls)
  onto_front line x [] = refl
  onto_front line x (l ∷ ls) = ap (λ y. y ∷ ls) (append_assoc line (x ∷ []) l)

  onto_twice : (front : List ℕ) (ls : List (List ℕ)) → onto [] (onto front ls) ≡ onto front ls
  onto_twice front [] = refl
  onto_twice front (l ∷ ls) = refl

  onto_either : (b : Bool) (front : List ℕ) (ls : List (List ℕ)) → onto [] (cond b ([] ∷ ls) (onto front ls)) ≡ cond b ([] ∷ ls) (onto front ls)
  onto_either true front ls = refl
  onto_either false front ls = onto_twice front ls

  pub onto_nothing : (bs : List ℕ) → onto [] (lines_of bs) ≡ lines_of bs
  onto_nothing [] = refl
  onto_nothing (b ∷ bs) = onto_either (b == 10) (b ∷ []) (lines_of bs)

  fed_at : (b : Bool) (m : S) (line : List ℕ) (x : ℕ) (xs out : List ℕ) (m2 : S) (line2 : List ℕ) (last : List ℕ) (m3 : S)
      → ((n : S) (l o : List ℕ) → Feeds makes n l xs o m2 line2 → Outputs makes n (onto l (lines_of xs)) (o ++ last) m3)
      → cond b ((mid : S) × (one : List ℕ) × (rest : List ℕ) × makes m line one mid × Feeds makes mid [] xs rest m2 line2 × (out ≡ one ++ rest)) (Feeds makes m (line ++ x ∷ []) xs out m2 line2)
      → Outputs makes m (onto line (cond b ([] ∷ lines_of xs) (onto (x ∷ []) (lines_of xs)))) (out ++ last) m3
  fed_at true m line x xs out m2 line2 last m3 go p = (
    p.0,
    p.1,
    p.2 ++ last,
    subst (λ l. makes m l p.1 p.0) (sym (append-nil line)) p.3,
    subst (λ ls. Outputs makes p.0 ls (p.2 ++ last) m3) (onto_nothing xs) (go p.0 [] p.2 p.4),
    ap (λ l. l ++ last) p.5 ∙ append_assoc p.1 p.2 last,
  )
  fed_at false m line x xs out m2 line2 last m3 go p = subst (λ ls. Outputs makes m ls (out ++ last) m3) (onto_front line x (lines_of xs)) (go m (line ++ x ∷ []) out p)

  -- bytes fed, and then the end of the last line, write what the lines write
  pub fed : (m : S) (line xs out : List ℕ) (m2 : S) (line2 last : List ℕ) (m3 : S) → Feeds makes m line xs out m2 line2 → makes m2 line2 last m3 → Outputs makes m (onto line (lines_of xs)) (out ++ last) m3
  fed m line [] out m2 line2 last m3 p q =
      let P : S → Type 0 = λ n. makes n line2 last m3 in
      let Q : List ℕ → Type 0 = λ l. makes m l last m3 in
      (m3, last, [], subst Q (p.2 ∙ sym (append-nil line)) (subst P p.1 q), (refl, refl), ap (λ o. o ++ last) p.0 ∙ sym (append-nil last))
  fed m line (x ∷ xs) out m2 line2 last m3 p q = fed_at (x == 10) m line x xs out m2 line2 last m3 (λ n l o f. fed n l xs o m2 line2 last m3 f q) p

  -- the lines that were ended among the bytes fed are the first lines, and one is behind them
  abbrev pub FedLines : S → List (List ℕ) → List ℕ → S → Type 0
  FedLines m all out m2 = (ls : List (List ℕ)) × (next : List ℕ) × (more : List (List ℕ)) × (all ≡ ls ++ next ∷ more) × Outputs makes m ls out m2

  no_lines : (m : S) (front : List ℕ) (lines : List (List ℕ)) → FedLines m (onto front lines) [] m
  no_lines m front [] = ([], front, [], refl, (refl, refl))
  no_lines m front (l ∷ ls) = ([], front ++ l, ls, refl, (refl, refl))

  fed_lines_at : (b : Bool) (m : S) (line : List ℕ) (x : ℕ) (xs ys out : List ℕ) (m2 : S) (left : List ℕ)
      → ((n : S) (l o : List ℕ) → Feeds makes n l xs o m2 left → FedLines n (onto l (lines_of (xs ++ ys))) o m2)
      → cond b ((mid : S) × (one : List ℕ) × (rest : List ℕ) × makes m line one mid × Feeds makes mid [] xs rest m2 left × (out ≡ one ++ rest)) (Feeds makes m (line ++ x ∷ []) xs out m2 left)
      → FedLines m (onto line (cond b ([] ∷ lines_of (xs ++ ys)) (onto (x ∷ []) (lines_of (xs ++ ys))))) out m2
  fed_lines_at true m line x xs ys out m2 left go p =
      let k = go p.0 [] p.2 p.4 in (
        line ∷ k.0,
        k.1,
        k.2,
        ap (λ l. l ∷ lines_of (xs ++ ys)) (append-nil line) ∙ ap (λ ls. line ∷ ls) (sym (onto_nothing (xs ++ ys)) ∙ k.3),
        (p.0, p.1, p.2, p.3, k.4, p.5),
      )
  fed_lines_at false m line x xs ys out m2 left go p = subst (λ ls. FedLines m ls out m2) (onto_front line x (lines_of (xs ++ ys))) (go m (line ++ x ∷ []) out p)

  pub fed_lines : (m : S) (line xs ys out : List ℕ) (m2 : S) (left : List ℕ) → Feeds makes m line xs out m2 left → FedLines m (onto line (lines_of (xs ++ ys))) out m2
  fed_lines m line [] ys out m2 left p = subst (λ n. FedLines m (onto line (lines_of ys)) out n) (sym p.1) (subst (λ o. FedLines m (onto line (lines_of ys)) o m) (sym p.0) (no_lines m line (lines_of ys)))
  fed_lines m line (x ∷ xs) ys out m2 left p = fed_lines_at (x == 10) m line x xs ys out m2 left (λ n l o f. fed_lines n l xs ys o m2 left f) p

  -- the lines that were ended among all the bytes are all but the last
  abbrev pub FedAll : S → List (List ℕ) → List ℕ → List ℕ → S → Type 0
  FedAll m all left out m2 = (ls : List (List ℕ)) × (all ≡ ls ++ left ∷ []) × Outputs makes m ls out m2

  fed_all_at : (b : Bool) (m : S) (line : List ℕ) (x : ℕ) (xs out : List ℕ) (m2 : S) (left : List ℕ)
      → ((n : S) (l o : List ℕ) → Feeds makes n l xs o m2 left → FedAll n (onto l (lines_of xs)) left o m2)
      → cond b ((mid : S) × (one : List ℕ) × (rest : List ℕ) × makes m line one mid × Feeds makes mid [] xs rest m2 left × (out ≡ one ++ rest)) (Feeds makes m (line ++ x ∷ []) xs out m2 left)
      → FedAll m (onto line (cond b ([] ∷ lines_of xs) (onto (x ∷ []) (lines_of xs)))) left out m2
  fed_all_at true m line x xs out m2 left go p =
      let k = go p.0 [] p.2 p.4 in (
        line ∷ k.0,
        ap (λ l. l ∷ lines_of xs) (append-nil line) ∙ ap (λ ls. line ∷ ls) (sym (onto_nothing xs) ∙ k.1),
        (p.0, p.1, p.2, p.3, k.2, p.5),
      )
  fed_all_at false m line x xs out m2 left go p = subst (λ ls. FedAll m ls left out m2) (onto_front line x (lines_of xs)) (go m (line ++ x ∷ []) out p)

  pub fed_all : (m : S) (line xs out : List ℕ) (m2 : S) (left : List ℕ) → Feeds makes m line xs out m2 left → FedAll m (onto line (lines_of xs)) left out m2
  fed_all m line [] out m2 left p = ([], ap (λ l. l ∷ []) (append-nil line ∙ sym p.2), (p.0, p.1))
  fed_all m line (x ∷ xs) out m2 left p = fed_all_at (x == 10) m line x xs out m2 left (λ n l o f. fed_all n l xs o m2 left f) p
