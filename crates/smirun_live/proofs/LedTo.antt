-- What holds where a call returned, from what it says of that.
use Rattle.std.proofs.Common.{Result, Ok, Err, IfOk}

-- from one thing
pub if_ok_one : {A E : Type 0} (r : Result A E) (P Q : A → Type 0) → IfOk r P → ((a : A) → P a → Q a) → IfOk r Q
if_ok_one (Ok x) P Q p f = f x p
if_ok_one (Err x) P Q p f = p

-- from two
pub if_ok_two : {A E : Type 0} (r : Result A E) (P Q R : A → Type 0) → IfOk r P → IfOk r Q → ((a : A) → P a → Q a → R a) → IfOk r R
if_ok_two (Ok x) P Q R p q f = f x p q
if_ok_two (Err x) P Q R p q f = p

-- and from three
pub if_ok_three : {A E : Type 0} (r : Result A E) (P Q R S : A → Type 0) → IfOk r P → IfOk r Q → IfOk r R → ((a : A) → P a → Q a → R a → S a) → IfOk r S
if_ok_three (Ok x) P Q R S p q r f = f x p q r
if_ok_three (Err x) P Q R S p q r f = p
