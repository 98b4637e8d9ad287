-- What goes along, line by line.
use Rattle.std.proofs.Common.{◌≡◌, ◌∙◌, sym, ap, refl, subst, ℕ, zero, suc, ◌<◌, ◌≤◌, ◌+◌, ◌^◌, ◌&&◌, ◌||◌, Bool, true, false, not, List, [], ◌∷◌, ◌++◌, All, Option, Some, None, append_assoc, append-nil, length, length-append, arith}
use Rattle.std.specs.Prelude.{IfSome, codes, nat_le}
use Rattle.std.specs.List.{list_all, list_any}
use Rattle.std.proofs.lemmas.Bool.Decides.{nat_tests}
use Rattle.std.proofs.lemmas.List.Elements.{All-cons, All-nil}
use Rattle.sml_text.specs.declared.limits.TheConstants.{LONGEST_NAME}
use Rattle.sml_text.specs.Decimal.{decimal_text}
use Rattle.sml_text.specs.Tokens.{Each}
use Rattle.sml_tree.specs.Word.{is_name_byte}
use Rattle.sml_domain.specs.Domain.{Domain}
use Rattle.sml_domain.specs.Sound.{IsObject, IsSound}
use Rattle.sml_domain.proofs.Finds.{all_head, all_tail}
use Rattle.smi_journal.specs.CallText.{object_name_text, spaced, state_name_text}
use Rattle.smi_journal.specs.HasText.{HasNames, IsNameText}
use Rattle.smi_live_once.specs.Forms.{is_once_byte, is_once_name}
use Rattle.smi_carried.specs.declared.carried.CarriedCounts.{CarriedCounts}
use Rattle.smi_carried.specs.declared.carried.CarriedPlace.{CarriedPlace}
use Rattle.smi_carried.specs.Carried.{CarriedView, OnceView}
use Rattle.smi_carried.specs.CarriedText.{carried_count_line, carried_counts_text, carried_names_text, carried_object_text, carried_once_line, carried_place_text, carried_text}
use Rattle.smi_carried.specs.Counts.{CountsAreHeld}
use Rattle.smi_carried.specs.Onces.{OnceIsHeld}
use Rattle.smi_carried.specs.Pieces.{is_other_byte}
use Rattle.smi_carried.specs.Places.{PlaceIsHeld}
use Rattle.smi_carried.specs.Reading.{CarriedIsHeld}
use Rattle.smi_carried.specs.Suits.{CarriedSuits, are_named_once, has_none, is_once_of, is_what, once_suits, place_suits}
use Rattle.smi_carried.proofs.Counted.{counts_text_from}
use Rattle.smi_carried.proofs.Counts.{count_word, counts_from, counts_parts}
use Rattle.smi_carried.proofs.Cuts.{each_append, each_more, number_bytes}
use Rattle.smi_carried.proofs.Names.{both_true, bytes_of_word, each_of_all, object_name, word_of_name}
use Rattle.smi_carried.proofs.OnceLines.{what_bytes}
use Rattle.smi_carried.proofs.Places.{object_of_state, state_name}
use Rattle.smi_log_front.specs.Laws.{IsOneLine}
use Rattle.smi_log_front.proofs.Lined.{IsCarriedLine, IsLined, last_byte, last_of_line, lined_line, lined_more, lined_none}

-- ---- bytes of lines

no_feed_byte : (c : ℕ) → is_name_byte c ≡ true → is_other_byte 10 c ≡ true
no_feed_byte c h = grind (arith, nat_tests)

no_feed_once : (c : ℕ) → is_once_byte c ≡ true → is_other_byte 10 c ≡ true
no_feed_once c h = grind (arith, nat_tests)

-- no byte of a name is a line feed
pub name_feed : (w : List ℕ) → IsNameText w → Each (is_other_byte 10) w
name_feed w n = each_more is_name_byte (is_other_byte 10) w no_feed_byte (bytes_of_word w (word_of_name w n))

once_feed : (name : List ℕ) → is_once_name name ≡ true → Each (is_other_byte 10) name
once_feed name h =
    let long = (both_true (nat_le 1 (length name)) (nat_le (length name) LONGEST_NAME && list_all is_once_byte name) h).1 in
    let all = (both_true (nat_le (length name) LONGEST_NAME) (list_all is_once_byte name) long).1 in
    each_more is_once_byte (is_other_byte 10) name no_feed_once (each_of_all is_once_byte name all)

both : (x y : List ℕ) → Each (is_other_byte 10) x → Each (is_other_byte 10) y → Each (is_other_byte 10) (x ++ y)
both x y hx hy = each_append (is_other_byte 10) x y hx hy

module _ (d : Domain) (sound : IsSound d) (names : HasNames d) where
  object_feed : (o : ℕ) → IsObject d o → Each (is_other_byte 10) (object_name_text d o)
  object_feed o lt = name_feed (object_name_text d o) (object_name d sound names o lt)

  -- the line of a count
  count_is_line : (word : Bool) (o n : ℕ) → IsObject d o → suc n < 2 ^ 64 → IsOneLine (carried_count_line (count_word word) d o (suc n))
  count_is_line word o n lt small = record {
    words = carried_object_text (count_word word) d o ++ spaced (decimal_text (suc n));
    each = both (carried_object_text (count_word word) d o) (spaced (decimal_text (suc n)))
        (both (count_word word) (spaced (object_name_text d o)) (word_feed word) (refl, object_feed o lt))
        (refl, number_bytes 10 (suc n) refl small);
    is = sym (append_assoc (carried_object_text (count_word word) d o) (spaced (decimal_text (suc n))) (10 ∷ []));
  }
    where
      word_feed : (word : Bool) → Each (is_other_byte 10) (count_word word)
      word_feed true = each_of_all (is_other_byte 10) (codes "! started") refl
      word_feed false = each_of_all (is_other_byte 10) (codes "! ended") refl

  count_is_carried : (word : Bool) (o n : ℕ) → IsCarriedLine (carried_count_line (count_word word) d o (suc n))
  count_is_carried true o n = record {
    byte = 115;
    more = (codes "tarted" ++ spaced (object_name_text d o)) ++ (spaced (decimal_text (suc n)) ++ codes "\n");
    other = λ e. omega (arith, e);
    is = refl;
  }
  count_is_carried false o n = record {
    byte = 101;
    more = (codes "nded" ++ spaced (object_name_text d o)) ++ (spaced (decimal_text (suc n)) ++ codes "\n");
    other = λ e. omega (arith, e);
    is = refl;
  }

  -- the line of a last request
  place_feed : (p : Option CarriedPlace) → place_suits d p ≡ true → IfSome p PlaceIsHeld → Each (is_other_byte 10) (carried_place_text d p)
  place_feed None h held = each_of_all (is_other_byte 10) (codes " - - 0") refl
  place_feed (Some p) h held =
      both (spaced (object_name_text d p.object)) (spaced (state_name_text d p.state) ++ spaced (decimal_text p.version))
      (refl, object_feed p.object (object_of_state d p.object p.state h))
      (both (spaced (state_name_text d p.state)) (spaced (decimal_text p.version))
      (refl, name_feed (state_name_text d p.state) (state_name d sound names p.object p.state h held.state))
      (refl, number_bytes 10 p.version refl held.version))

  once_is_line : (x : OnceView) → once_suits d x ≡ true → OnceIsHeld x → IsOneLine (carried_once_line d x)
  once_is_line x suits held =
      let parts = both_true (is_once_name x.name) (place_suits d x.place && is_what x.what) suits in
      let placed = both_true (place_suits d x.place) (is_what x.what) parts.1 in
      let number = decimal_text x.number in
      let place = carried_place_text d x.place in
      record {
        words = codes "! once" ++ (spaced x.name ++ (spaced number ++ (place ++ spaced x.what)));
        each = both (codes "! once") (spaced x.name ++ (spaced number ++ (place ++ spaced x.what)))
            (each_of_all (is_other_byte 10) (codes "! once") refl)
            (both (spaced x.name) (spaced number ++ (place ++ spaced x.what)) (refl, once_feed x.name parts.0)
            (both (spaced number) (place ++ spaced x.what) (refl, number_bytes 10 x.number refl held.number)
            (both place (spaced x.what) (place_feed x.place placed.0 held.place) (refl, what_bytes x.what placed.1))));
        is = sym (ap (λ l. codes "! once " ++ l) (append_assoc x.name (spaced number ++ (place ++ spaced x.what)) (10 ∷ [])
            ∙ ap (λ l. x.name ++ 32 ∷ l) (append_assoc number (place ++ spaced x.what) (10 ∷ [])
            ∙ ap (λ l. number ++ l) (append_assoc place (spaced x.what) (10 ∷ [])))));
      }

  once_is_carried : (x : OnceView) → IsCarriedLine (carried_once_line d x)
  once_is_carried x = record {
    byte = 111;
    more = codes "nce" ++ (spaced x.name ++ (spaced (decimal_text x.number) ++ (carried_place_text d x.place ++ (spaced x.what ++ codes "\n"))));
    other = λ e. omega (arith, e);
    is = refl;
  }

  -- ---- all lines

  names_lined : (S : List ℕ → Type 0) (xs : List OnceView) → list_all (once_suits d) xs ≡ true → All OnceIsHeld xs
      → ((ys zs : List OnceView) → xs ≡ ys ++ zs → S (carried_names_text d ys)) → IsLined S (carried_names_text d xs)
  names_lined S [] suit held front = lined_none S
  names_lined S (x ∷ xs) suit held front =
      let parts = both_true (once_suits d x) (list_all (once_suits d) xs) suit in
      let line = carried_once_line d x in
      lined_line S line (carried_names_text d xs) (once_is_line x parts.0 (all_head OnceIsHeld x xs held)) (once_is_carried x)
      (subst S (append-nil line) (front (x ∷ []) xs refl))
      (names_lined (λ q. S (line ++ q)) xs parts.1 (all_tail OnceIsHeld x xs held) (λ ys zs e. front (x ∷ ys) zs (ap (λ l. x ∷ l) e)))

  count_lined : (S : List ℕ → Type 0) (word : Bool) (o n : ℕ) (rest : List ℕ) → IsObject d o → n < 2 ^ 64 → S (carried_count_line (count_word word) d o n)
      → IsLined (λ q. S (carried_count_line (count_word word) d o n ++ q)) rest → IsLined S (carried_count_line (count_word word) d o n ++ rest)
  count_lined S word o zero rest lt small may on = on
  count_lined S word o (suc n) rest lt small may on =
      lined_line S (carried_count_line (count_word word) d o (suc n)) rest (count_is_line word o n lt small) (count_is_carried word o n) may on

  -- counts of 0
  abbrev no_counts : CarriedCounts
  no_counts = record { started = 0; ended = 0 }

  abbrev zeros : ℕ → List CarriedCounts
  zeros zero = []
  zeros (suc n) = no_counts ∷ zeros n

  zeros_count : (n : ℕ) → length (zeros n) ≡ n
  zeros_count zero = refl
  zeros_count (suc n) = ap suc (zeros_count n)

  zeros_text : (o n : ℕ) → counts_from d o (zeros n) ≡ []
  zeros_text o zero = refl
  zeros_text o (suc n) = zeros_text (suc o) n

  zeros_held : (n : ℕ) → All CountsAreHeld (zeros n)
  zeros_held zero = All-nil CountsAreHeld
  zeros_held (suc n) = All-cons CountsAreHeld no_counts (zeros n) (record { started = omega arith; ended = omega arith }) (zeros_held n)

  counts_lined : (S : List ℕ → Type 0) (o : ℕ) (cs : List CarriedCounts) (rest : List ℕ) → o + length cs ≤ length d.objects → All CountsAreHeld cs
      → ((ds : List CarriedCounts) → length ds ≡ length cs → All CountsAreHeld ds → S (counts_from d o ds))
      → IsLined (λ q. S (counts_from d o cs ++ q)) rest → IsLined S (counts_from d o cs ++ rest)
  counts_lined S o [] rest fit held front on = on
  counts_lined S o (c ∷ cs) rest fit held front on =
      let own = all_head CountsAreHeld c cs held in
      let later = all_tail CountsAreHeld c cs held in
      let start = carried_count_line (count_word true) d o c.started in
      let end = carried_count_line (count_word false) d o c.ended in
      let lt : IsObject d o = omega (arith, fit) in
      let none = zeros (length cs) in
      let count = zeros_count (length cs) in
      let started : CarriedCounts = record { started = c.started; ended = 0 } in
      let own_start : CountsAreHeld started = record { started = own.started; ended = omega arith } in
      let first : S start
      = subst S (ap (λ l. (start ++ []) ++ l) (zeros_text (suc o) (length cs)) ∙ append-nil (start ++ []) ∙ append-nil start)
      (front (started ∷ none) (ap suc count) (All-cons CountsAreHeld started none own_start (zeros_held (length cs)))) in
      let second : S (start ++ end)
      = subst S (ap (λ l. (start ++ end) ++ l) (zeros_text (suc o) (length cs)) ∙ append-nil (start ++ end))
      (front (c ∷ none) (ap suc count) (All-cons CountsAreHeld c none own (zeros_held (length cs)))) in
      subst (IsLined S) (sym (counts_parts d o c cs rest))
      (count_lined S true o c.started (end ++ (counts_from d (suc o) cs ++ rest)) lt own.started first
      (count_lined (λ q. S (start ++ q)) false o c.ended (counts_from d (suc o) cs ++ rest) lt own.ended second
      (counts_lined (λ q. S (start ++ (end ++ q))) (suc o) cs rest (omega (arith, fit)) later
      (λ ds e h. subst S (append_assoc start end (counts_from d (suc o) ds)) (front (c ∷ ds) (ap suc e) (All-cons CountsAreHeld c ds own h)))
      (lined_more (λ q. S (((start ++ end) ++ counts_from d (suc o) cs) ++ q)) (λ q. S (start ++ (end ++ (counts_from d (suc o) cs ++ q)))) rest
      (λ q s. subst S (counts_parts d o c cs q) s) on))))

  -- ---- whole lines

  names_end : (xs : List OnceView) → list_all (once_suits d) xs ≡ true → All OnceIsHeld xs → last_byte 10 (carried_names_text d xs) ≡ 10
  names_end [] suit held = refl
  names_end (x ∷ xs) suit held =
      let parts = both_true (once_suits d x) (list_all (once_suits d) xs) suit in
      last_of_line 10 (carried_once_line d x) (carried_names_text d xs) (once_is_line x parts.0 (all_head OnceIsHeld x xs held))
      ∙ names_end xs parts.1 (all_tail OnceIsHeld x xs held)

  count_end : (word : Bool) (o n : ℕ) (rest : List ℕ) → IsObject d o → n < 2 ^ 64
      → last_byte 10 (carried_count_line (count_word word) d o n ++ rest) ≡ last_byte 10 rest
  count_end word o zero rest lt small = refl
  count_end word o (suc n) rest lt small = last_of_line 10 (carried_count_line (count_word word) d o (suc n)) rest (count_is_line word o n lt small)

  counts_end : (o : ℕ) (cs : List CarriedCounts) (rest : List ℕ) → o + length cs ≤ length d.objects → All CountsAreHeld cs
      → last_byte 10 (counts_from d o cs ++ rest) ≡ last_byte 10 rest
  counts_end o [] rest fit held = refl
  counts_end o (c ∷ cs) rest fit held =
      let own = all_head CountsAreHeld c cs held in
      let lt : IsObject d o = omega (arith, fit) in
      let end = carried_count_line (count_word false) d o c.ended in
      ap (last_byte 10) (counts_parts d o c cs rest) ∙ count_end true o c.started (end ++ (counts_from d (suc o) cs ++ rest)) lt own.started
      ∙ count_end false o c.ended (counts_from d (suc o) cs ++ rest) lt own.ended
      ∙ counts_end (suc o) cs rest (omega (arith, fit)) (all_tail CountsAreHeld c cs held)

-- ---- the front of last requests

all_front : (f : OnceView → Bool) (xs ys : List OnceView) → list_all f (xs ++ ys) ≡ true → list_all f xs ≡ true
all_front f [] ys h = refl
all_front f (x ∷ xs) ys h = let b = both_true (f x) (list_all f (xs ++ ys)) h in ap (λ k. k && list_all f xs) b.0 ∙ all_front f xs ys b.1

none_front : (name : List ℕ) (xs ys : List OnceView) → has_none name (xs ++ ys) ≡ true → has_none name xs ≡ true
none_front name [] ys h = refl
none_front name (x ∷ xs) ys h = by (is_once_of name x) (none_front name xs ys) h
  where
    by : (b : Bool) → (has_none name (xs ++ ys) ≡ true → has_none name xs ≡ true) → not (b || list_any (is_once_of name) (xs ++ ys)) ≡ true
        → not (b || list_any (is_once_of name) xs) ≡ true
    by true on h = absurd (cc h)
    by false on h = on h

once_front : (xs ys : List OnceView) → are_named_once (xs ++ ys) ≡ true → are_named_once xs ≡ true
once_front [] ys h = refl
once_front (x ∷ xs) ys h =
    let b = both_true (has_none x.name (xs ++ ys)) (are_named_once (xs ++ ys)) h in
    ap (λ k. k && are_named_once xs) (none_front x.name xs ys b.0) ∙ once_front xs ys b.1

held_front : (xs ys : List OnceView) → All OnceIsHeld (xs ++ ys) → All OnceIsHeld xs
held_front [] ys h = All-nil OnceIsHeld
held_front (x ∷ xs) ys h = All-cons OnceIsHeld x xs (all_head OnceIsHeld x (xs ++ ys) h) (held_front xs ys (all_tail OnceIsHeld x (xs ++ ys) h))

-- ---- all that goes along

-- the text is that of what may go along
pub record IsCarriedText (d : Domain) (text : List ℕ) : Type 0 where
  pub carried : CarriedView
  pub suits : CarriedSuits d carried
  pub held : CarriedIsHeld carried
  pub is : text ≡ carried_text d carried

module _ (d : Domain) (sound : IsSound d) (names : HasNames d) (c : CarriedView) (suits : CarriedSuits d c) (held : CarriedIsHeld c) where
  only_counts : (ds : List CarriedCounts) → length ds ≡ length c.counts → All CountsAreHeld ds → IsCarriedText d (counts_from d 0 ds)
  only_counts ds size h = record {
    carried = record { counts = ds; names = [] };
    suits = record { objects = size ∙ suits.objects; few = omega arith; each = refl; once = refl };
    held = record { counts = h; names = All-nil OnceIsHeld };
    is = sym (counts_text_from d ds) ∙ sym (append-nil (carried_counts_text d ds));
  }

  some_names : (ys zs : List OnceView) → c.names ≡ ys ++ zs → IsCarriedText d (counts_from d 0 c.counts ++ carried_names_text d ys)
  some_names ys zs e =
      let few = suits.few in
      let size : length c.names ≡ length ys + length zs = ap length e ∙ length-append ys zs in
      record {
        carried = record { counts = c.counts; names = ys };
        suits = record {
          objects = suits.objects;
          few = omega (arith, few, size);
          each = all_front (once_suits d) ys zs (ap (list_all (once_suits d)) (sym e) ∙ suits.each);
          once = once_front ys zs (ap are_named_once (sym e) ∙ suits.once);
        };
        held = record { counts = held.counts; names = held_front ys zs (subst (All OnceIsHeld) e held.names) };
        is = ap (λ l. l ++ carried_names_text d ys) (sym (counts_text_from d c.counts));
      }

  -- wherever one of its lines ends, it may end
  pub carried_lined : IsLined (IsCarriedText d) (carried_text d c)
  carried_lined =
      let objects = suits.objects in
      subst (IsLined (IsCarriedText d)) (ap (λ l. l ++ carried_names_text d c.names) (sym (counts_text_from d c.counts)))
      (counts_lined d sound names (IsCarriedText d) 0 c.counts (carried_names_text d c.names) (omega (arith, objects)) held.counts only_counts
      (names_lined d sound names (λ q. IsCarriedText d (counts_from d 0 c.counts ++ q)) c.names suits.each held.names some_names))

  -- its text is of whole lines
  pub carried_ends : last_byte 10 (carried_text d c) ≡ 10
  carried_ends =
      let objects = suits.objects in
      ap (last_byte 10) (ap (λ l. l ++ carried_names_text d c.names) (counts_text_from d c.counts))
      ∙ counts_end d sound names 0 c.counts (carried_names_text d c.names) (omega (arith, objects)) held.counts
      ∙ names_end d sound names c.names suits.each held.names
