-- The first line of a front, and the last.
use Rattle.std.proofs.Common.{◌≡◌, ◌≢◌, ◌∙◌, sym, ap, ℕ, ◌<◌, ◌^◌, true, List, [], ◌∷◌, ◌++◌, append_assoc}
use Rattle.std.specs.Prelude.{codes}
use Rattle.std.proofs.lemmas.List.{append_cancel_left}
use Rattle.sml_text.specs.Decimal.{decimal_text}
use Rattle.smi_log_front.specs.FrontText.{front_end, front_head}
use Rattle.smi_log_front.specs.Reading.{EndIsRead, HeadIsRead, NoEndIsRead, NoHeadIsRead}
use Rattle.smi_log_front.specs.Sums.{is_log_sum}
use Rattle.smi_log_front.proofs.SumDigits.{one_sum}

-- ---- the first line

abbrev pub words : List ℕ
words = codes "! smirun live 2 "

abbrev pub room : List ℕ
room = codes " capacity "

-- what comes after the sum
abbrev pub room_text : ℕ → List ℕ → List ℕ
room_text capacity more = room ++ (decimal_text capacity ++ 10 ∷ more)

pub head_says : (sum : List ℕ) (capacity : ℕ) (more : List ℕ) → front_head sum capacity ++ more ≡ words ++ (sum ++ room_text capacity more)
head_says sum capacity more =
    let number = decimal_text capacity in
    ap (λ l. words ++ l) (ap (λ l. l ++ more) (append_assoc sum (room ++ number) (10 ∷ [])) ∙ append_assoc sum ((room ++ number) ++ 10 ∷ []) more
    ∙ ap (λ l. sum ++ (room ++ l)) (append_assoc number (10 ∷ []) more))

pub no_head_words : (text : List ℕ) → ((more : List ℕ) → text ≢ words ++ more) → NoHeadIsRead text
no_head_words text none sum capacity more read = none (sum ++ room_text capacity more) (read.says ∙ head_says sum capacity more)

module _ (text sums_on : List ℕ) (is : text ≡ words ++ sums_on) where
  after_words : (sum : List ℕ) (capacity : ℕ) (more : List ℕ) → HeadIsRead text sum capacity more → sums_on ≡ sum ++ room_text capacity more
  after_words sum capacity more read =
      append_cancel_left words sums_on (sum ++ room_text capacity more) (sym is ∙ read.says ∙ head_says sum capacity more)

  pub no_head_sum : ((sum more : List ℕ) → is_log_sum sum ≡ true → sums_on ≢ sum ++ more) → NoHeadIsRead text
  no_head_sum none sum capacity more read = none sum (room_text capacity more) read.digits (after_words sum capacity more read)

  module _ (front rooms_on : List ℕ) (digits : is_log_sum front ≡ true) (is1 : sums_on ≡ front ++ rooms_on) where
    after_sum : (sum : List ℕ) (capacity : ℕ) (more : List ℕ) → HeadIsRead text sum capacity more → (front ≡ sum) × (rooms_on ≡ room_text capacity more)
    after_sum sum capacity more read =
        one_sum front sum rooms_on (room_text capacity more) digits read.digits (sym is1 ∙ after_words sum capacity more read)

    pub no_head_room : ((more : List ℕ) → rooms_on ≢ room ++ more) → NoHeadIsRead text
    no_head_room none sum capacity more read = none (decimal_text capacity ++ 10 ∷ more) (after_sum sum capacity more read).1

    module _ (digits_on : List ℕ) (is2 : rooms_on ≡ room ++ digits_on) where
      pub no_head_number : ((n : ℕ) (more : List ℕ) → n < 2 ^ 64 → digits_on ≢ decimal_text n ++ 10 ∷ more) → NoHeadIsRead text
      no_head_number none sum capacity more read =
          none capacity more read.held
          (append_cancel_left room digits_on (decimal_text capacity ++ 10 ∷ more) (sym is2 ∙ (after_sum sum capacity more read).1))

      pub head_read : (n : ℕ) (more : List ℕ) → digits_on ≡ decimal_text n ++ 10 ∷ more → n < 2 ^ 64 → HeadIsRead text front n more
      head_read n more e small = record {
        digits = digits;
        held = small;
        says = is ∙ ap (λ l. words ++ l) (is1 ∙ ap (λ l. front ++ l) (is2 ∙ ap (λ l. room ++ l) e)) ∙ sym (head_says front n more);
      }

-- ---- the last line

pub end_says : (sum more : List ℕ) → front_end sum ++ more ≡ codes "! after " ++ (sum ++ 10 ∷ more)
end_says sum more = ap (λ l. codes "! after " ++ l) (append_assoc sum (10 ∷ []) more)

pub no_end_words : (text : List ℕ) → ((more : List ℕ) → text ≢ codes "! after " ++ more) → NoEndIsRead text
no_end_words text none sum more read = none (sum ++ 10 ∷ more) (read.says ∙ end_says sum more)

module _ (text sums_on : List ℕ) (is : text ≡ codes "! after " ++ sums_on) where
  after_end_words : (sum more : List ℕ) → EndIsRead text sum more → sums_on ≡ sum ++ 10 ∷ more
  after_end_words sum more read = append_cancel_left (codes "! after ") sums_on (sum ++ 10 ∷ more) (sym is ∙ read.says ∙ end_says sum more)

  pub no_end_sum : ((sum more : List ℕ) → is_log_sum sum ≡ true → sums_on ≢ sum ++ more) → NoEndIsRead text
  no_end_sum none sum more read = none sum (10 ∷ more) read.digits (after_end_words sum more read)

  module _ (front ends_on : List ℕ) (digits : is_log_sum front ≡ true) (is1 : sums_on ≡ front ++ ends_on) where
    pub no_end_feed : ((more : List ℕ) → ends_on ≢ codes "\n" ++ more) → NoEndIsRead text
    no_end_feed none sum more read =
        none more (one_sum front sum ends_on (10 ∷ more) digits read.digits (sym is1 ∙ after_end_words sum more read)).1

    pub end_read : (more : List ℕ) → ends_on ≡ codes "\n" ++ more → EndIsRead text front more
    end_read more e = record {
      digits = digits;
      says = is ∙ ap (λ l. codes "! after " ++ l) (is1 ∙ ap (λ l. front ++ l) e) ∙ sym (end_says front more);
    }
