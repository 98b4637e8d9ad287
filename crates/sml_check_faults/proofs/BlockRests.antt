-- What is left of a block, instruction by instruction.
use Rattle.std.proofs.Common.{◌≡◌, ◌∙◌, sym, ap, refl, ℕ, suc, ◌<◌, ◌+◌, List, [], ◌∷◌, ◌++◌, length, get_or, map, flat_map, nat_lt, Option, None, Some, arith}
use Rattle.std.proofs.lemmas.Bool.Decides.{nat_tests}
use Rattle.sml_tree.specs.Syntax.{ClassData, ActionData, ItemData, InstrData}
use Rattle.sml_tree.specs.Content.{block_of}
use Rattle.sml_check_faults.specs.Sites.{Site, asks, tests, sets, ends, changes, instr_sites, block_sites}
use Rattle.sml_check_faults.specs.Lookup.{first_item}
use Rattle.sml_check_faults.specs.Tables.{first_or_else}
use Rattle.sml_check_faults.specs.Heads.{has_body}
use Rattle.sml_check_faults.specs.Repeats.{repeated_site}
use Rattle.sml_check_faults.specs.Kinds.{site_faults}
use Rattle.sml_check_faults.specs.declared.kind.CheckKind.TheVariants.{Duplicate}
use Rattle.sml_check_faults.proofs.Rests.{Rest, first_here, first_next, first_in-append}

-- what the blocks of some instructions have
abbrev pub in_block : {X Y : Type 0} → (Site → List Y) → (X → InstrData) → List X → Option Y
in_block f g zs = first_item (flat_map f (block_sites (block_of (map g zs))))

module _ {X Y : Type 0} (f : Site → List Y) (g : X → InstrData) (xs ys : List X) (k : ℕ) (r : Option Y) (x : X) (h : Rest (in_block f g) xs k r) (same : ys ≡ xs) (within : k < length ys) (is : x ≡ get_or ys k x) where
  splits : (zs : List X) → in_block f g (x ∷ zs) ≡ first_or_else (first_item (flat_map f (instr_sites (g x)))) (in_block f g zs)
  splits zs = first_in-append f (instr_sites (g x)) (block_sites (block_of (map g zs)))

  pub block_here : (n : Y) → Some n ≡ first_item (flat_map f (instr_sites (g x))) → Some n ≡ r
  block_here n here = first_here (in_block f g) xs ys k r x (first_item (flat_map f (instr_sites (g x)))) h same within is splits n here

  pub block_next : None ≡ first_item (flat_map f (instr_sites (g x))) → Rest (in_block f g) xs (k + 1) r
  block_next none = first_next (in_block f g) xs ys k r x (first_item (flat_map f (instr_sites (g x)))) h same within is splits none

-- an instruction that names one thing
pub one_site : {X Y : Type 0} (f : X → List Y) (s : X) → first_item (flat_map f (s ∷ [])) ≡ first_item (f s)
one_site {Y = Y} f s = by (f s)
  where
    by : (ys : List Y) → first_item (ys ++ []) ≡ first_item ys
    by [] = refl
    by (y ∷ ys) = refl

or_else_found : {X : Type 0} (a b : Option X) (n : X) → Some n ≡ a → Some n ≡ first_or_else a b
or_else_found a b n e = ap (λ o. first_or_else o b) e

or_else_next : {X : Type 0} (a b c : Option X) → None ≡ a → c ≡ b → c ≡ first_or_else a b
or_else_next a b c e f = f ∙ ap (λ o. first_or_else o b) e

-- the second of three parts
pub first_second : {X Y : Type 0} (f : X → List Y) (cs xs bs : List X) (n : Y) → None ≡ first_item (flat_map f cs) → Some n ≡ first_item (flat_map f xs) → Some n ≡ first_item (flat_map f (cs ++ (xs ++ bs)))
first_second f cs xs bs n none here =
    or_else_next (first_item (flat_map f cs)) (first_or_else (first_item (flat_map f xs)) (first_item (flat_map f bs))) (Some n) none (or_else_found (first_item (flat_map f xs)) (first_item (flat_map f bs)) n here)
    ∙ sym (first_in-append f cs (xs ++ bs) ∙ ap (first_or_else (first_item (flat_map f cs))) (first_in-append f xs bs))

-- the first of three parts
pub first_first : {X Y : Type 0} (f : X → List Y) (cs rest : List X) (n : Y) → Some n ≡ first_item (flat_map f cs) → Some n ≡ first_item (flat_map f (cs ++ rest))
first_first f cs rest n here = or_else_found (first_item (flat_map f cs)) (first_item (flat_map f rest)) n here ∙ sym (first_in-append f cs rest)

-- the last of three parts
pub first_third : {X Y : Type 0} (f : X → List Y) (cs xs bs : List X) (r : Option Y) → None ≡ first_item (flat_map f cs) → None ≡ first_item (flat_map f xs) → r ≡ first_item (flat_map f bs) → r ≡ first_item (flat_map f (cs ++ (xs ++ bs)))
first_third f cs xs bs r none nor here =
    or_else_next (first_item (flat_map f cs)) (first_or_else (first_item (flat_map f xs)) (first_item (flat_map f bs))) r none (or_else_next (first_item (flat_map f xs)) (first_item (flat_map f bs)) r nor here)
    ∙ sym (first_in-append f cs (xs ++ bs) ∙ ap (first_or_else (first_item (flat_map f cs))) (first_in-append f xs bs))

-- a block with instructions
pub has_body_if_long : {X : Type 0} (g : X → InstrData) (xs : List X) (n : ℕ) → n ≡ length xs → nat_lt 0 n ≡ has_body (block_of (map g xs))
has_body_if_long g [] n e = ap (nat_lt 0) e
has_body_if_long g (x ∷ xs) n e = let long : n ≡ suc (length xs) = e in grind (arith, nat_tests)

-- what is repeated at one place is what the kind says
same_site : (file : List ItemData) (c : ClassData) (a : ActionData) (s : Site) → site_faults Duplicate file c a s ≡ repeated_site s
same_site file c a (asks s) = refl
same_site file c a (tests t) = refl
same_site file c a (sets n v) = refl
same_site file c a (ends s) = refl
same_site file c a (changes add member set) = refl

pub same_sites : (file : List ItemData) (c : ClassData) (a : ActionData) (ss : List Site) → flat_map (site_faults Duplicate file c a) ss ≡ flat_map repeated_site ss
same_sites file c a [] = refl
same_sites file c a (s ∷ ss) = ap (λ ns. ns ++ flat_map (site_faults Duplicate file c a) ss) (same_site file c a s) ∙ ap (λ ns. repeated_site s ++ ns) (same_sites file c a ss)
