-- The tokens of a text, step by step.
use Rattle.std.proofs.Common.{◌≡◌, ◌≤◌, ◌<◌, ℕ, zero, suc, ◌+◌, ◌-◌, List, [], ◌∷◌, ◌++◌, refl, ap, sym, ◌∙◌, subst, arith, length, take, drop, drop-drop, length-drop, length-take, take-append-drop, Option, Some, None, true, false, Bool, ◌⊎◌, inl, inr, ◌==◌, ◌↔◌, IsTrue}
use Rattle.std.proofs.lemmas.Bool.Decides.{nat_tests}
use Rattle.sml_text.specs.declared.source.Source.{Source}
use Rattle.sml_text.specs.declared.front.Front.{Front}
use Rattle.sml_text.specs.declared.front.Front.TheVariants.{End, Skip, Word as AWord, Int as AnInt, Str as AStr, Sign as ASign, Session as ASession, Bad}
use Rattle.sml_text.specs.Tokens.{Lexeme, Token, LexemeStands, blank, comment, word, int, string, sign, session, with_token, TokensAt, ends, goes_on, BadAt, here, later, TokensOf, BadTokenOf}
use Rattle.sml_text.specs.Laws.{SomeReading, OneReading, OneTokens, OneBad, TokensFrom}
use Rattle.sml_text.specs.Front.{StandsFirst, IsFront, front_size, front_what, front_stands}
use Rattle.sml_text.specs.Scan.{front}
use Rattle.sml_text.specs.Stream.{Thing, thing_of, first_thing, TextReading, with_thing, after, read_things, reading, tokens_from, bad_from, TextEnds}
use Rattle.sml_text.proofs.Fronts.{IsThing, front_is, front_thing, front_first, stands_first, no_thing}
use Rattle.sml_text.proofs.Spans.{drop_seam}

some_bytes : (source : Source) (bytes rest : List ℕ) (what : Option Lexeme) → LexemeStands source bytes rest what → 0 < length bytes
some_bytes source bytes rest what (blank c _ h) = omega arith
some_bytes source bytes rest what (comment body _ each over) = omega arith
some_bytes source bytes rest what (word c body _ letter each over short) = omega arith
some_bytes source bytes rest what (int true c digits _ digit each over long) = omega arith
some_bytes source bytes rest what (int false c digits _ digit each over long) = omega arith
some_bytes source bytes rest what (string body _ each short) = omega arith
some_bytes source bytes rest what (sign s _) = omega arith
some_bytes source bytes rest what (session k _ line least most) = omega arith

-- a thing takes some of the text
abbrev Takes : Option Thing → List ℕ → Type 0
Takes None text = Unit {0}
Takes (Some thing) text = (0 < thing.size) × (thing.size ≤ length text)

stands_takes : (source : Source) (text : List ℕ) (n : ℕ) (what : Option Lexeme) → StandsFirst source text n what → (0 < n) × (n ≤ length text)
stands_takes source text n what s =
    let w = s.within in let l = length-take n text in
    let b = some_bytes source (take n text) (drop n text) what s.stands in
    (omega (arith, w, l, b), w)

thing_takes : (source : Source) (text : List ℕ) (t : Option Thing) → IsThing source text t → Takes t text
thing_takes source text None s = tt
thing_takes source text (Some thing) s = stands_takes source text thing.size thing.what s

first_is : (source : Source) (text : List ℕ) → IsThing source text (first_thing source text)
first_is source text = front_thing source text (front source text) (front_is source text)

first_takes : (source : Source) (text : List ℕ) → Takes (first_thing source text) text
first_takes source text = thing_takes source text (first_thing source text) (first_is source text)

shorter : (n f : ℕ) (text : List ℕ) → 0 < n → n ≤ length text → length text ≤ suc f → length (drop n text) ≤ f
shorter n f text h h' e = let d = length-drop n text in omega arith

-- more steps change nothing
read_enough : (source : Source) (f f' at : ℕ) (text : List ℕ) → length text ≤ f → length text ≤ f' → read_things f source at text ≡ read_things f' source at text
read_enough source zero zero at text h h' = refl
read_enough source zero (suc f') at [] h h' = refl
read_enough source zero (suc f') at (c ∷ text) h h' = absurd (omega arith)
read_enough source (suc f) zero at [] h h' = refl
read_enough source (suc f) zero at (c ∷ text) h h' = absurd (omega arith)
read_enough source (suc f) (suc f') at text h h' = go (first_thing source text) (first_takes source text) (λ at' text'. read_enough source f f' at' text')
  where
    none : (t : List ℕ) → after None at t (λ at' text'. read_things f source at' text') ≡ after None at t (λ at' text'. read_things f' source at' text')
    none [] = refl
    none (c ∷ t) = refl

    go : (x : Option Thing) → Takes x text → ((at' : ℕ) (text' : List ℕ) → length text' ≤ f → length text' ≤ f' → read_things f source at' text' ≡ read_things f' source at' text')
        → after x at text (λ at' text'. read_things f source at' text') ≡ after x at text (λ at' text'. read_things f' source at' text')
    go None w rec = none text
    go (Some thing) w rec =
        ap (with_thing at thing.what) (rec (at + thing.size) (drop thing.size text) (shorter thing.size f text w.0 w.1 h) (shorter thing.size f' text w.0 w.1 h'))

-- the first thing, and what is read behind it
reading_step : (source : Source) (at : ℕ) (text : List ℕ) → reading source at text ≡ after (first_thing source text) at text (reading source)
reading_step source at [] = refl
reading_step source at (c ∷ text) = go (first_thing source (c ∷ text)) (first_takes source (c ∷ text))
  where
    go : (x : Option Thing) → Takes x (c ∷ text) → after x at (c ∷ text) (λ at' text'. read_things (length text) source at' text') ≡ after x at (c ∷ text) (reading source)
    go None w = refl
    go (Some thing) w =
        ap (with_thing at thing.what)
        (read_enough source (length text) (length (drop thing.size (c ∷ text))) (at + thing.size) (drop thing.size (c ∷ text)) (shorter thing.size (length text) (c ∷ text) w.0 w.1 (omega arith)) (omega arith))

reading_first : (source : Source) (at : ℕ) (text : List ℕ) (t : Option Thing) → first_thing source text ≡ t → reading source at text ≡ after t at text (reading source)
reading_first source at text t e = reading_step source at text ∙ ap (λ x. after x at text (reading source)) e

-- what is at the front as a thing
stands_thing : (x : Front) (text : List ℕ) → front_stands x ≡ true → thing_of x text ≡ Some (record { size = front_size x; what = front_what x text })
stands_thing End text e = absurd (cc e)
stands_thing (Skip n) text e = refl
stands_thing (AWord n) text e = refl
stands_thing (AnInt value n) text e = refl
stands_thing (AStr n) text e = refl
stands_thing (ASign s) text e = refl
stands_thing (ASession k) text e = refl
stands_thing Bad text e = absurd (cc e)

stands_none : (x : Front) (text : List ℕ) → front_stands x ≡ false → thing_of x text ≡ None
stands_none End text e = refl
stands_none (Skip n) text e = absurd (cc e)
stands_none (AWord n) text e = absurd (cc e)
stands_none (AnInt value n) text e = absurd (cc e)
stands_none (AStr n) text e = absurd (cc e)
stands_none (ASign s) text e = absurd (cc e)
stands_none (ASession k) text e = absurd (cc e)
stands_none Bad text e = refl

-- where something stands at the front
pub front_reading : (source : Source) (at : ℕ) (text : List ℕ) (x : Front) → IsFront source text x → front_stands x ≡ true
    → reading source at text ≡ with_thing at (front_what x text) (reading source (at + front_size x) (drop (front_size x) text))
front_reading source at text x s e = reading_first source at text _ (sym (front_first source text x s) ∙ stands_thing x text e)

-- what is at the front is there by all its bytes
front_stands_first : (source : Source) (text : List ℕ) (x : Front) → IsFront source text x → front_stands x ≡ true → StandsFirst source text (front_size x) (front_what x text)
front_stands_first source text End s e = absurd (cc e)
front_stands_first source text (Skip n) s e = s
front_stands_first source text (AWord n) s e = s
front_stands_first source text (AnInt value n) s e = s
front_stands_first source text (AStr n) s e = s
front_stands_first source text (ASign it) s e = s
front_stands_first source text (ASession k) s e = s
front_stands_first source text Bad s e = absurd (cc e)

-- likewise in the text that it stands in, from its place to the place behind it
pub stands_there : (source : Source) (text rest : List ℕ) (from at size : ℕ) (x : Front) (what : Option Lexeme) → IsFront source rest x → front_stands x ≡ true
    → rest ≡ drop (at - from) text → size ≡ front_size x → front_what x rest ≡ what → StandsFirst source (drop (at - from) text) (at + size - at) what
stands_there source text rest from at size x what front stands there sized with_token =
    let first_thing = subst (λ w. StandsFirst source rest (front_size x) w) with_token (front_stands_first source rest x front stands) in
    let e : front_size x ≡ at + size - at = omega (arith, sized) in
    subst (λ n. StandsFirst source (drop (at - from) text) n what) e (subst (λ t. StandsFirst source t (front_size x) what) there first_thing)

-- and that is some bytes of the text
pub front_takes : (source : Source) (text : List ℕ) (x : Front) → IsFront source text x → front_stands x ≡ true → (0 < front_size x) × (front_size x ≤ length text)
front_takes source text x s e = subst (λ t. Takes t text) (stands_thing x text e) (thing_takes source text (thing_of x text) (front_thing source text x s))

-- where nothing stands
reading_none : (source : Source) (at : ℕ) (text : List ℕ) (x : Front) → IsFront source text x → front_stands x ≡ false → reading source at text ≡ after None at text (reading source)
reading_none source at text x s e = reading_first source at text None (sym (front_first source text x s) ∙ stands_none x text e)

pub front_stops : (source : Source) (at : ℕ) (text : List ℕ) (x : Front) → IsFront source text x → front_stands x ≡ false → tokens_from source at text ≡ []
front_stops source at text x s e = ap (λ (r : TextReading). r.tokens) (reading_none source at text x s e) ∙ go text
  where
    go : (t : List ℕ) → (after None at t (reading source)).tokens ≡ []
    go [] = refl
    go (c ∷ t) = refl

no_bytes : (n : ℕ) → (n == 0) ≡ true → n ≡ 0
no_bytes n h = grind (arith, nat_tests)

some_length : (n : ℕ) → (n == 0) ≡ false → 0 < n
some_length n h = grind (arith, nat_tests)

pub front_ends : (source : Source) (at : ℕ) (text : List ℕ) (x : Front) → IsFront source text x → front_stands x ≡ false → (empty : Bool) → empty ≡ (length text == 0) → empty ≡ true → (reading source at text).bad ≡ None
front_ends source at text x s e empty is h = ap (λ (r : TextReading). r.bad) (reading_none source at text x s e) ∙ go text (no_bytes (length text) (sym is ∙ h))
  where
    go : (t : List ℕ) → length t ≡ 0 → (after None at t (reading source)).bad ≡ None
    go [] h = refl
    go (c ∷ t) h = absurd (omega arith)

pub front_bad : (source : Source) (at : ℕ) (text : List ℕ) (x : Front) → IsFront source text x → front_stands x ≡ false → (empty : Bool) → empty ≡ (length text == 0) → empty ≡ false → (reading source at text).bad ≡ Some at
front_bad source at text x s e empty is h = ap (λ (r : TextReading). r.bad) (reading_none source at text x s e) ∙ go text (some_length (length text) (sym is ∙ h))
  where
    go : (t : List ℕ) → 0 < length t → (after None at t (reading source)).bad ≡ Some at
    go [] h = absurd (omega arith)
    go (c ∷ t) h = refl

-- what is in front is read first
stands_reading : (source : Source) (at : ℕ) (bytes rest : List ℕ) (what : Option Lexeme) → LexemeStands source bytes rest what
    → reading source at (bytes ++ rest) ≡ with_thing at what (reading source (at + length bytes) rest)
stands_reading source at bytes rest what s =
    reading_first source at (bytes ++ rest) _ (stands_first source bytes rest what s)
    ∙ ap (λ t. with_thing at what (reading source (at + length bytes) t)) (drop_seam bytes rest _ refl)

-- tokens are what is read
pub tokens_read : (source : Source) (at : ℕ) (text : List ℕ) (ts : List Token) → TokensAt source at text ts → reading source at text ≡ record { tokens = ts; bad = None }
tokens_read source at text ts (ends _) = refl
tokens_read source at text ts (goes_on _ bytes rest what us s more) =
    stands_reading source at bytes rest what s ∙ ap (with_thing at what) (tokens_read source (at + length bytes) rest us more)

-- and so is a bad place
pub bad_read : (source : Source) (at : ℕ) (text : List ℕ) (bad : ℕ) → BadAt source at text bad → (reading source at text).bad ≡ Some bad
bad_read source at text bad (here _ c rest none) = front_none (first_thing source (c ∷ rest)) (first_is source (c ∷ rest)) refl
  where
    front_none : (t : Option Thing) → IsThing source (c ∷ rest) t → first_thing source (c ∷ rest) ≡ t → (reading source at (c ∷ rest)).bad ≡ Some at
    front_none None s e = ap (λ (r : TextReading). r.bad) (reading_first source at (c ∷ rest) None e)
    front_none (Some t) s e = absurd (none (take t.size (c ∷ rest)) (drop t.size (c ∷ rest)) t.what (sym (take-append-drop t.size (c ∷ rest))) s.stands)
bad_read source at text bad (later _ bytes rest what _ s more) =
    ap (λ (r : TextReading). r.bad) (stands_reading source at bytes rest what s) ∙ bad_read source (at + length bytes) rest bad more

-- what is read are tokens, or there is a bad place
abbrev Said : Source → ℕ → List ℕ → List Token → Option ℕ → Type 0
Said source at text ts None = TokensAt source at text ts
Said source at text ts (Some bad) = BadAt source at text bad

said_more : (source : Source) (at n : ℕ) (text : List ℕ) (what : Option Lexeme) (ts : List Token) (bad : Option ℕ)
    → StandsFirst source text n what → Said source (at + n) (drop n text) ts bad → Said source at text (with_token at what ts) bad
said_more source at n text what ts bad s h = go bad (subst (λ k. Said source (at + k) (drop n text) ts bad) (let w = s.within in let l = length-take n text in omega (arith, w, l)) h)
  where
    go : (b : Option ℕ) → Said source (at + length (take n text)) (drop n text) ts b → Said source at text (with_token at what ts) b
    go None h = subst (λ t. TokensAt source at t (with_token at what ts)) (take-append-drop n text) (goes_on at (take n text) (drop n text) what ts s.stands h)
    go (Some k) h = subst (λ t. BadAt source at t k) (take-append-drop n text) (later at (take n text) (drop n text) what k s.stands h)

read_said : (source : Source) (f at : ℕ) (text : List ℕ) → length text ≤ f → Said source at text (read_things f source at text).tokens (read_things f source at text).bad
read_said source zero at [] h = ends at
read_said source zero at (c ∷ text) h = absurd (omega arith)
read_said source (suc f) at text h = go (first_thing source text) refl (first_is source text) (λ at' text'. read_said source f at' text')
  where
    go : (t : Option Thing) → first_thing source text ≡ t → IsThing source text t
        → ((at' : ℕ) (text' : List ℕ) → length text' ≤ f → Said source at' text' (read_things f source at' text').tokens (read_things f source at' text').bad)
        → Said source at text (after t at text (λ at' text'. read_things f source at' text')).tokens (after t at text (λ at' text'. read_things f source at' text')).bad
    go None e s rec = none text e
      where
        none : (t : List ℕ) → first_thing source t ≡ None → Said source at t (after None at t (λ at' text'. read_things f source at' text')).tokens (after None at t (λ at' text'. read_things f source at' text')).bad
        none [] e = ends at
        none (c ∷ t) e = here at c t (λ bytes rest what whole stands. no_thing _ (sym e ∙ ap (first_thing source) whole ∙ stands_first source bytes rest what stands))
    go (Some thing) e s rec =
        let w = stands_takes source text thing.size thing.what s in
        said_more source at thing.size text thing.what _ _ s (rec (at + thing.size) (drop thing.size text) (shorter thing.size f text w.0 w.1 h))

pub reading_said : (source : Source) (at : ℕ) (text : List ℕ) → Said source at text (reading source at text).tokens (reading source at text).bad
reading_said source at text = read_said source (length text) at text (omega arith)

pub read_tokens : (source : Source) (at : ℕ) (text : List ℕ) → (reading source at text).bad ≡ None → TokensAt source at text (tokens_from source at text)
read_tokens source at text e = subst (Said source at text (tokens_from source at text)) e (reading_said source at text)

pub read_bad : (source : Source) (at : ℕ) (text : List ℕ) (bad : ℕ) → (reading source at text).bad ≡ Some bad → BadAt source at text bad
read_bad source at text bad e = subst (Said source at text (tokens_from source at text)) e (reading_said source at text)

-- what a step of the loop reads
pub next_reading : (source : Source) (at : ℕ) (text more : List ℕ) (x : Front) (size : ℕ) (stands : Bool) → IsFront source text x → stands ≡ front_stands x → stands ≡ true → size ≡ front_size x → more ≡ drop size text
    → reading source at text ≡ with_thing at (front_what x text) (reading source (at + size) more)
next_reading source at text more x size stands s is good fits back =
    front_reading source at text x s (sym is ∙ good)
    ∙ ap (λ n. with_thing at (front_what x text) (reading source (at + n) (drop n text))) (sym fits)
    ∙ ap (λ t. with_thing at (front_what x text) (reading source (at + size) t)) (sym back)

pub next_tokens : (source : Source) (at : ℕ) (text more : List ℕ) (x : Front) (size : ℕ) (stands : Bool) (what : Option Lexeme) → IsFront source text x → stands ≡ front_stands x → stands ≡ true → size ≡ front_size x → more ≡ drop size text → front_what x text ≡ what
    → tokens_from source at text ≡ with_token at what (tokens_from source (at + size) more)
next_tokens source at text more x size stands what s is good fits back e =
    ap (λ (r : TextReading). r.tokens) (next_reading source at text more x size stands s is good fits back)
    ∙ ap (λ w. with_token at w (tokens_from source (at + size) more)) e

-- and where it ends
pub next_bad : (source : Source) (at : ℕ) (text more : List ℕ) (x : Front) (size : ℕ) (stands : Bool) → IsFront source text x → stands ≡ front_stands x → stands ≡ true → size ≡ front_size x → more ≡ drop size text
    → bad_from source at text ≡ bad_from source (at + size) more
next_bad source at text more x size stands s is good fits back =
    ap (λ (r : TextReading). r.bad) (next_reading source at text more x size stands s is good fits back)

pub some_reading : SomeReading
some_reading source text = go (reading source 0 text).bad (reading_said source 0 text)
  where
    go : (b : Option ℕ) → Said source 0 text (tokens_from source 0 text) b → ((ts : List Token) × TokensOf source text ts) ⊎ ((bad : ℕ) × BadTokenOf source text bad)
    go None h = inl (tokens_from source 0 text, h)
    go (Some k) h = inr (k, h)

tokens_bad : (source : Source) (at : ℕ) (text : List ℕ) (ts : List Token) → TokensAt source at text ts → (reading source at text).bad ≡ None
tokens_bad source at text ts h = ap (λ (r : TextReading). r.bad) (tokens_read source at text ts h)

pub tokens_are : TokensFrom
tokens_are source at text ts h = ap (λ (r : TextReading). r.tokens) (tokens_read source at text ts h)

pub one_reading : OneReading
one_reading source text ts bad h g = absurd (some_none bad (sym (bad_read source 0 text bad g) ∙ tokens_bad source 0 text ts h))
  where
    some_none : (k : ℕ) → Some k ≡ None → ⊥
    some_none k e = absurd (cc e)

pub one_tokens : OneTokens
one_tokens source text ts us h g = sym (tokens_are source 0 text ts h) ∙ tokens_are source 0 text us g

pub one_bad : OneBad
one_bad source text bad other h g = go (sym (bad_read source 0 text bad h) ∙ bad_read source 0 text other g)
  where
    go : Some bad ≡ Some other → bad ≡ other
    go e = cc e

-- what is left `size` bytes further on
pub dropped_on : (begin at size : ℕ) (text rest : List ℕ) → begin ≤ at → rest ≡ drop (at - begin) text → drop size rest ≡ drop ((at + size) - begin) text
dropped_on begin at size text rest on e = ap (drop size) e ∙ (drop-drop size (at - begin) text ∙ ap (λ n. drop n text) (omega (arith, on)))

-- at the end of what is left a text ends
pub ended : (source : Source) (at : ℕ) (text rest : List ℕ) (place : ℕ) → reading source at text ≡ reading source place rest → rest ≡ [] → IsTrue true ↔ TextEnds source at text
ended source at text rest place same none =
    let all = same ∙ ap (reading source place) none in
    ((λ _. (ap (λ (r : TextReading). r.tokens) all, ap (λ (r : TextReading). r.bad) all)), (λ _. refl))

-- and if a token or what is not a token is in front, it does not
front_goes_on : (source : Source) (at : ℕ) (text : List ℕ) (x : Front) → IsFront source text x → (x ≡ End → ⊥) → ((n : ℕ) → x ≡ Skip n → ⊥) → TextEnds source at text → ⊥
front_goes_on source at text End s end skip e = end refl
front_goes_on source at text (Skip n) s end skip e = skip n refl
front_goes_on source at text (AWord n) s end skip e = let t = sym e.0 ∙ ap (λ (r : TextReading). r.tokens) (front_reading source at text (AWord n) s refl) in absurd (cc t)
front_goes_on source at text (AnInt value n) s end skip e = let t = sym e.0 ∙ ap (λ (r : TextReading). r.tokens) (front_reading source at text (AnInt value n) s refl) in absurd (cc t)
front_goes_on source at text (AStr n) s end skip e = let t = sym e.0 ∙ ap (λ (r : TextReading). r.tokens) (front_reading source at text (AStr n) s refl) in absurd (cc t)
front_goes_on source at text (ASign it) s end skip e = let t = sym e.0 ∙ ap (λ (r : TextReading). r.tokens) (front_reading source at text (ASign it) s refl) in absurd (cc t)
front_goes_on source at text (ASession k) s end skip e = let t = sym e.0 ∙ ap (λ (r : TextReading). r.tokens) (front_reading source at text (ASession k) s refl) in absurd (cc t)
front_goes_on source at text Bad s end skip e = none text s.0 (sym e.1 ∙ ap (λ (r : TextReading). r.bad) (reading_none source at text Bad s refl))
  where
    none : (t : List ℕ) → (t ≡ [] → ⊥) → None ≡ (after None at t (reading source)).bad → ⊥
    none [] some b = some refl
    none (c ∷ t) some b = absurd (cc b)

pub not_ended : (source : Source) (at : ℕ) (text rest : List ℕ) (place : ℕ) (x : Front) → reading source at text ≡ reading source place rest
    → IsFront source rest x → (x ≡ End → ⊥) → ((n : ℕ) → x ≡ Skip n → ⊥) → IsTrue false ↔ TextEnds source at text
not_ended source at text rest place x same s end skip =
    ((λ e. absurd (cc e)), (λ (e : TextEnds source at text). absurd (front_goes_on source place rest x s end skip (sym (ap (λ (r : TextReading). r.tokens) same) ∙ e.0, sym (ap (λ (r : TextReading). r.bad) same) ∙ e.1))))
