-- The line of a parameter.
use Rattle.std.proofs.Common.{◌≡◌, ◌≢◌, ◌∙◌, sym, ap, refl, subst, ℕ, List, [], ◌∷◌, ◌++◌, Option, Some, None, IfSome, IsSomeAnd, append_assoc, slice_get}
use Rattle.std.specs.Option.{option_map_or}
use Rattle.std.proofs.lemmas.List.{append_cancel_left}
use Rattle.sml_domain.specs.declared.value.Value.{Value}
use Rattle.std.proofs.lemmas.Option.{same_Some}
use Rattle.sml_domain.specs.Lookups.{class_params_at}
use Rattle.smi_outset_text.specs.Lines.{IsBadFor, ParamOf}
use Rattle.sml_domain.specs.Domain.{Domain, Param}
use Rattle.sml_domain.specs.Sound.{IsOfKind}
use Rattle.sml_text.specs.Bytes.{no_line_feed}
use Rattle.sml_text.specs.Tokens.{Each}
use Rattle.smi_journal.specs.CallText.{spaced, value_text}
use Rattle.smi_journal.specs.HasText.{ValueIsHeld}
use Rattle.sml_outset.specs.Suits.{ParamSuits}
use Rattle.smi_outset_text.specs.OutsetText.{keyed_object, outset_param_front}
use Rattle.smi_outset_text.specs.Reading.{NoParamIsRead, ParamIsRead, ReadsValue}
use Rattle.smi_outset_text.proofs.Fronts.{no_feed_no_line, one_line_front}
use Rattle.smi_outset_text.proofs.Spelled.{value_line}
use Rattle.std.specs.Prelude.{codes}

-- a value that is there
pub record HasValue (p given : Param) : Type 0 where
  pub value : Value
  pub is : given.value ≡ Some value
  pub kind : IsOfKind p.kind value
  pub held : ValueIsHeld value

value_of : (p given : Param) (x : Option Value) → given.value ≡ x → given.kind ≡ p.kind → IsSomeAnd x (IsOfKind given.kind) → IfSome x ValueIsHeld → HasValue p given
value_of p given None e k fits held = absurd fits
value_of p given (Some v) e k fits held = record { value = v; is = e; kind = subst (λ j. IsOfKind j v) k fits; held = held }

pub has_value : (p given : Param) → ParamSuits p given → IfSome given.value ValueIsHeld → HasValue p given
has_value p given suits held = value_of p given given.value refl suits.kind suits.value held

module _ (d : Domain) (o : ℕ) (p : Param) (text : List ℕ) where
  -- the fronts of the lines of a parameter are one
  same_front : (given : Param) → ParamSuits p given → outset_param_front d o given ≡ outset_param_front d o p
  same_front given s = ap (λ n. keyed_object (codes "! param") d o ++ (spaced n ++ codes "=")) s.name

  -- what stands behind the front of a line that is read
  pub value_behind : (given : Param) (more : List ℕ) → ParamIsRead d o p text given more
      → (v : Value) × IsOfKind p.kind v × ValueIsHeld v × (text ≡ outset_param_front d o p ++ (value_text v ++ 10 ∷ more))
  value_behind given more h =
      let v = has_value p given h.suits h.held in (
        v.value,
        v.kind,
        v.held,
        h.says ∙ append_assoc (outset_param_front d o given) (option_map_or value_text given.value [] ++ codes "\n") more
            ∙ ap (λ l. l ++ ((option_map_or value_text given.value [] ++ codes "\n") ++ more)) (same_front given h.suits)
            ∙ ap (λ x. outset_param_front d o p ++ ((option_map_or value_text x [] ++ codes "\n") ++ more)) v.is
            ∙ ap (λ l. outset_param_front d o p ++ l) (append_assoc (value_text v.value) (10 ∷ []) more),
      )

  pub no_front : ((more : List ℕ) → text ≢ outset_param_front d o p ++ more) → NoParamIsRead d o p text
  no_front not given more h = let v = value_behind given more h in not (value_text v.0 ++ 10 ∷ more) v.3

  module _ (behind : List ℕ) (is : text ≡ outset_param_front d o p ++ behind) where
    after_front : (x : List ℕ) → text ≡ outset_param_front d o p ++ x → behind ≡ x
    after_front x e = append_cancel_left (outset_param_front d o p) behind x (sym is ∙ e)

    pub no_feed : Each no_line_feed behind → NoParamIsRead d o p text
    no_feed none given more h =
        let v = value_behind given more h in no_feed_no_line behind (value_text v.0) more none (after_front (value_text v.0 ++ 10 ∷ more) v.3)

    module _ (digits more : List ℕ) (split : behind ≡ digits ++ 10 ∷ more) (line : Each no_line_feed digits) where
      pub no_value : ReadsValue p.kind digits None → NoParamIsRead d o p text
      no_value none given last h =
          let v = value_behind given last h in
          let one = one_line_front digits (value_text v.0) more last line (value_line v.0 v.2) (sym split ∙ after_front (value_text v.0 ++ 10 ∷ last) v.3) in
          none v.0 v.1 v.2 one.0

      pub value_read : (v : Value) → ReadsValue p.kind digits (Some v) → ParamIsRead d o p text (record { name = p.name; kind = p.kind; value = Some v }) more
      value_read v h = record {
        suits = record { name = refl; kind = refl; value = h.0 };
        held = h.1;
        says = is ∙ ap (λ l. outset_param_front d o p ++ l) (split ∙ ap (λ l. l ++ 10 ∷ more) h.2 ∙ sym (append_assoc (value_text v) (10 ∷ []) more))
            ∙ sym (append_assoc (outset_param_front d o p) (value_text v ++ 10 ∷ []) more);
      }

-- where no value is read, the line is bad
pub param_bad : (d : Domain) (o k : ℕ) (p : Param) (text : List ℕ) → slice_get (class_params_at d o) k ≡ Some p → NoParamIsRead d o p text
    → IsBadFor d (ParamOf o k) text
param_bad d o k p text at none one more line e =
    let same : line.param ≡ p = same_Some line.param p (sym line.at ∙ at) in
    none line.given more (record { suits = subst (λ q. ParamSuits q line.given) same line.suits; held = line.held; says = e ∙ ap (λ l. l ++ more) line.says })
