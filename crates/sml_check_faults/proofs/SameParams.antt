-- The comparison of lists of parameters finds those that are the same.
use Rattle.std.proofs.Common.{◌≡◌, ◌∙◌, ap, subst, refl, Bool, true, false, ◌&&◌, List, [], ◌∷◌, Option, Some, None}
use Rattle.std.specs.Bool.{Decides, one_answer}
use Rattle.std.proofs.lemmas.Bool.Decides.{Decides-int_eq}
use Rattle.sml_tree.specs.declared.file.Kind.{Kind}
use Rattle.sml_tree.specs.declared.file.Kind.TheVariants.{Int, Str}
use Rattle.sml_tree.specs.Syntax.{LiteralData, int, str, ActionParamData}
use Rattle.sml_check_faults.specs.Lookup.{named}
use Rattle.sml_check_faults.specs.Heads.{same_literal, same_default, same_param, same_params}
use Rattle.sml_check_faults.specs.Laws.{SameParams}
use Rattle.sml_check_faults.proofs.Pairs.{same_names, named_same}
use Rattle.sml_tree.specs.Kinds.{same_kind}

pub and_first : (a b : Bool) → (a && b) ≡ true → a ≡ true
and_first true b e = refl
and_first false b e = cc

pub and_second : (a b : Bool) → (a && b) ≡ true → b ≡ true
and_second true b e = e
and_second false b e = cc

pub both_true : (a b : Bool) → a ≡ true → b ≡ true → (a && b) ≡ true
both_true true b e f = f
both_true false b e f = cc

-- ---- what is found the same is the same

pub kinds_agree : (j k : Kind) → same_kind j k ≡ true → j ≡ k
kinds_agree Int Int e = refl
kinds_agree Int Str e = cc
kinds_agree Str Int e = cc
kinds_agree Str Str e = refl

literals_agree : (l m : LiteralData) → same_literal l m ≡ true → l ≡ m
literals_agree (int n) (int m) e = ap int ((Decides-int_eq n m).0 e)
literals_agree (int n) (str t) e = cc
literals_agree (str s) (int m) e = cc
literals_agree (str s) (str t) e = ap str (same_names s t e)

defaults_agree : (l m : Option LiteralData) → same_default l m ≡ true → l ≡ m
defaults_agree None None e = refl
defaults_agree None (Some m) e = cc
defaults_agree (Some l) None e = cc
defaults_agree (Some l) (Some m) e = ap (λ v. Some v) (literals_agree l m e)

param_agree : (p q : ActionParamData) → same_param p q ≡ true → p ≡ q
param_agree p q e =
    let both = and_first (same_kind p.kind q.kind && named p.name q.name) (same_default p.default q.default) e in
    by (kinds_agree p.kind q.kind (and_first (same_kind p.kind q.kind) (named p.name q.name) both)) (same_names p.name q.name (and_second (same_kind p.kind q.kind) (named p.name q.name) both))
    (defaults_agree p.default q.default (and_second (same_kind p.kind q.kind && named p.name q.name) (same_default p.default q.default) e))
  where
    by : p.kind ≡ q.kind → p.name ≡ q.name → p.default ≡ q.default → p ≡ q
    by k n d =
        ap (λ j. record { kind = j; name = p.name; default = p.default }) k ∙ ap (λ m. record { kind = q.kind; name = m; default = p.default }) n
        ∙ ap (λ v. record { kind = q.kind; name = q.name; default = v }) d

pub params_agree : (ps qs : List ActionParamData) → same_params ps qs ≡ true → ps ≡ qs
params_agree [] [] e = refl
params_agree [] (q ∷ qs) e = cc
params_agree (p ∷ ps) [] e = cc
params_agree (p ∷ ps) (q ∷ qs) e =
    ap (λ r. r ∷ ps) (param_agree p q (and_first (same_param p q) (same_params ps qs) e)) ∙ ap (λ rs. q ∷ rs) (params_agree ps qs (and_second (same_param p q) (same_params ps qs) e))

-- ---- what is the same is found the same

pub kind_itself : (k : Kind) → same_kind k k ≡ true
kind_itself Int = refl
kind_itself Str = refl

literal_itself : (l : LiteralData) → same_literal l l ≡ true
literal_itself (int n) = (Decides-int_eq n n).1 refl
literal_itself (str s) = named_same s s refl

-- a comparison that decides whether two values are the same answers as this one
pub same_literal_by : (b : Bool) (l m : LiteralData) → Decides b (l ≡ m) → b ≡ same_literal l m
same_literal_by b l m decides = one_answer b (same_literal l m) decides (literals_agree l m, λ is. subst (λ (k : LiteralData). same_literal l k ≡ true) is (literal_itself l))

default_itself : (l : Option LiteralData) → same_default l l ≡ true
default_itself None = refl
default_itself (Some l) = literal_itself l

param_itself : (p : ActionParamData) → same_param p p ≡ true
param_itself p =
    both_true (same_kind p.kind p.kind && named p.name p.name) (same_default p.default p.default)
    (both_true (same_kind p.kind p.kind) (named p.name p.name) (kind_itself p.kind) (named_same p.name p.name refl)) (default_itself p.default)

pub params_themselves : (ps : List ActionParamData) → same_params ps ps ≡ true
params_themselves [] = refl
params_themselves (p ∷ ps) =
    both_true (same_param p p) (same_params ps ps) (param_itself p) (params_themselves ps)

pub same_params_decides : SameParams
same_params_decides ps qs = (params_agree ps qs, λ is. subst (λ rs. same_params ps rs ≡ true) is (params_themselves ps))
