-- A word in upper case is a word, and how an array is filled with one.
use Rattle.std.proofs.Common.{◌≡◌, ℕ, zero, suc, ◌-◌, ◌<◌, ◌≤◌, List, [], ◌∷◌, ◌++◌, length, take, drop, replicate, IsTrue, refl, arith, ap, ◌∙◌, sym, nat_le}
use Rattle.std.proofs.lemmas.List.{length-map, length-append, length-replicate, drop-replicate}
use Rattle.std.proofs.Math.Seq.{take-append_seam, drop-append_seam}
use Rattle.std.proofs.lemmas.Bool.{and_from, and_parts}
use Rattle.std.proofs.lemmas.Bool.Decides.{nat_tests}
use Rattle.std.proofs.lemmas.Str.{IsUtf8-from_ascii}
use Rattle.std.proofs.lemmas.Str.Ascii.{IsAscii-nil}
use Rattle.std.specs.Str.{IsUtf8, IsAscii}
use Rattle.std.specs.Char.{is_ascii_alphabetic, to_ascii_uppercase}
use Rattle.std.specs.List.{list_all}
use Rattle.sml_tree.specs.Word.{is_name_byte, is_name_text, is_name_word, upper, HasName}
use Rattle.sml_text.specs.declared.limits.TheConstants.{LONGEST_NAME}

letter_upper : (b : ℕ) → IsTrue (is_ascii_alphabetic b) → IsTrue (is_ascii_alphabetic (to_ascii_uppercase b))
letter_upper b h = grind (arith, nat_tests)

byte_upper : (b : ℕ) → IsTrue (is_name_byte b) → IsTrue (is_name_byte (to_ascii_uppercase b))
byte_upper b h = grind (arith, nat_tests)

upper_twice : (b : ℕ) → to_ascii_uppercase (to_ascii_uppercase b) ≡ to_ascii_uppercase b
upper_twice b = grind (arith, nat_tests)

pub upper-upper : (bs : List ℕ) → upper (upper bs) ≡ upper bs
upper-upper [] = refl
upper-upper (b ∷ bs) = cc (upper_twice b, upper-upper bs)

all_upper : (bs : List ℕ) → IsTrue (list_all is_name_byte bs) → IsTrue (list_all is_name_byte (upper bs))
all_upper [] h = refl
all_upper (b ∷ bs) h =
    let p = and_parts (is_name_byte b) (list_all is_name_byte bs) h in
    and_from _ _ (byte_upper b p.0) (all_upper bs p.1)

text_upper : (bs : List ℕ) → IsTrue (is_name_text bs) → IsTrue (is_name_text (upper bs))
text_upper [] h = h
text_upper (b ∷ bs) h =
    let p = and_parts (is_ascii_alphabetic b) (list_all is_name_byte bs) h in
    and_from _ _ (letter_upper b p.0) (all_upper bs p.1)

pub word_upper : (bs : List ℕ) → IsTrue (is_name_word bs) → IsTrue (is_name_word (upper bs))
word_upper bs h =
    let p = and_parts (is_name_text bs) (nat_le (length bs) LONGEST_NAME) h in
    and_from _ _ (text_upper bs p.0) (ap (λ n. nat_le n LONGEST_NAME) (length-map bs to_ascii_uppercase) ∙ p.1)

pub word_fits : (bs : List ℕ) → IsTrue (is_name_word bs) → length bs ≤ LONGEST_NAME
word_fits bs h = let p = (and_parts (is_name_text bs) (nat_le (length bs) LONGEST_NAME) h).1 in grind (arith, nat_tests)

byte_ascii : (b : ℕ) → IsTrue (is_name_byte b) → b < 128
byte_ascii b h = grind (arith, nat_tests)

letter_ascii : (b : ℕ) → IsTrue (is_ascii_alphabetic b) → b < 128
letter_ascii b h = grind (arith, nat_tests)

bytes_ascii : (bs : List ℕ) → IsTrue (list_all is_name_byte bs) → IsAscii bs
bytes_ascii [] h i = IsAscii-nil i
bytes_ascii (b ∷ bs) h zero = byte_ascii b (and_parts (is_name_byte b) (list_all is_name_byte bs) h).0
bytes_ascii (b ∷ bs) h (suc i) = bytes_ascii bs (and_parts (is_name_byte b) (list_all is_name_byte bs) h).1 i

text_ascii : (bs : List ℕ) → IsTrue (is_name_text bs) → IsAscii bs
text_ascii [] h i = IsAscii-nil i
text_ascii (b ∷ bs) h zero = letter_ascii b (and_parts (is_ascii_alphabetic b) (list_all is_name_byte bs) h).0
text_ascii (b ∷ bs) h (suc i) = bytes_ascii bs (and_parts (is_ascii_alphabetic b) (list_all is_name_byte bs) h).1 i

-- the bytes of a word are a text
pub word_utf8 : (bs : List ℕ) → IsTrue (is_name_word bs) → IsUtf8 bs
word_utf8 bs h =
    let p = and_parts (is_name_text bs) (nat_le (length bs) LONGEST_NAME) h in
    IsUtf8-from_ascii bs (text_ascii bs p.0)

-- zeros behind a word in upper case are a name
pub named : (word bytes : List ℕ) → IsTrue (is_name_word word) → bytes ≡ upper word → HasName (bytes ++ drop (length word) (replicate LONGEST_NAME 0)) (length word)
named word bytes h e =
    let fits = word_fits word h in
    let long : length bytes ≡ length word = ap (λ (bs : List ℕ). length bs) e ∙ length-map word to_ascii_uppercase in
    let zeros = drop (length word) (replicate LONGEST_NAME 0) in
    let front : take (length word) (bytes ++ zeros) ≡ upper word = ap (λ n. take n (bytes ++ zeros)) (sym long) ∙ take-append_seam bytes zeros ∙ e in
    let count : length zeros ≡ LONGEST_NAME - length word = ap (λ (bs : List ℕ). length bs) (drop-replicate (length word) LONGEST_NAME 0) ∙ length-replicate (LONGEST_NAME - length word) 0 in
    record {
      fits = fits;
      filled = length-append bytes zeros ∙ omega (arith, long, fits, count);
      padded = ap (λ n. drop n (bytes ++ zeros)) (sym long) ∙ drop-append_seam bytes zeros ∙ drop-replicate (length word) LONGEST_NAME 0;
      word = rw front (word_upper word h);
      upper_case = rw front (upper-upper word);
    }
