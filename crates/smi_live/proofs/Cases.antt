-- What holds where a call returned, from what it says of that.
use Rattle.std.proofs.Common.{◌≡◌, ◌≢◌, sym, ◌∙◌, Option, Some, None, Result, Ok, Err, OnOk, IfOk, Bool, true, false}

pub on_ok : {A E P R : Type 0} (r : Result A E) → OnOk r P → (P → R) → OnOk r R
on_ok (Ok x) p f = f p
on_ok (Err x) p f = p

pub on_ok_both : {A E P Q R : Type 0} (r : Result A E) → OnOk r P → OnOk r Q → (P → Q → R) → OnOk r R
on_ok_both (Ok x) p q f = f p q
on_ok_both (Err x) p q f = p

pub on_ok_three : {A E P Q S R : Type 0} (r : Result A E) → OnOk r P → OnOk r Q → OnOk r S → (P → Q → S → R) → OnOk r R
on_ok_three (Ok x) p q s f = f p q s
on_ok_three (Err x) p q s f = p

-- where a call returned false, and where it returned true
pub if_false : {E P Q : Type 0} (r : Result Bool E) → IfOk r (λ b. b ≡ false → P) → (P → Q) → IfOk r (λ b. b ≡ false → Q)
if_false (Ok b) p f = λ e. f (p e)
if_false (Err x) p f = p

pub if_true : {E P Q : Type 0} (r : Result Bool E) → IfOk r (λ b. b ≡ true → P) → (P → Q) → IfOk r (λ b. b ≡ true → Q)
if_true (Ok b) p f = λ e. f (p e)
if_true (Err x) p f = p

-- something is there
pub is_there : {X : Type 0} (o : Option X) (x : X) → o ≡ Some x → o ≢ None
is_there {X = X} o x e f = let g : ◌≡◌ {A = Option X} (Some x) None = sym e ∙ f in cc g
