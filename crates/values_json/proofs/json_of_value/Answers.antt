use Rattle.std.proofs.Common.{◌≡◌, List, ℕ, [], ◌++◌, sym, ap, subst, ◌∙◌}
use Rattle.std.specs.Str.{IsUtf8}
use Rattle.json.specs.Print.{print}
use Rattle.json.specs.Written.{Written}
use Rattle.serde_json.specs.Data.{Data}
use Rattle.serde_json.specs.Read.{read}
use Rattle.serde_json.specs.Written.{compact_text}
use Rattle.serde_json.proofs.Texts.{print-outline}
use Rattle.aper_values.specs.Views.{view}
use Rattle.json_defs.specs.shown_defs.Printed.{shown_as}
use Rattle.json_defs.specs.type_defs.Types.{named}
use Rattle.values_json.specs.tokens.Written.{tokens_of, WritesWhole}
use Rattle.values_json.proofs.tokens.Texts.{reads_again}
use Rattle.proof_json.proofs.order.Ordered.{printed_ordered}
use Rattle.values_json.proofs.json_of_value.Goals as goal

-- what a fresh writer holds when a tree is written to it
tokens_written : (d : Data) (start end : Written) → start.tokens ≡ [] → WritesWhole d start end → end.tokens ≡ tokens_of d
tokens_written d start end fresh put = put.0.1 ∙ ap (λ ts. ts ++ tokens_of d) fresh

print_written : (d : Data) (start end : Written) → start.tokens ≡ [] → WritesWhole d start end → print end.tokens ≡ compact_text d
print_written d start end fresh put = ap print (tokens_written d start end fresh put) ∙ print-outline d

all_written : (d : Data) (start end : Written) (text : List ℕ) → start.before ≡ [] → start.tokens ≡ [] → WritesWhole d start end
    → text ≡ end.before ++ print end.tokens → text ≡ print end.tokens
all_written d start end text empty fresh put is = is ∙ ap (λ xs. xs ++ print end.tokens) (put.0.0 ∙ empty)

pub returns-in-Ok-clause-text : goal.returns-in-Ok-clause-text
returns-in-Ok-clause-text c =
    let shown : Data = shown_as (named c.args.m.now c.args.id.number) (view c.args.value.now) in
    let start : Written = c.new-out.result in
    let end : Written = c.write_value.new.out in
    all_written shown start end c.from_vec.result (c.new-out.ensures.before ∙ c.in_ok-with_capacity.ensures.items) c.new-out.ensures.tokens
    c.in-Ok.ensures (c.from_vec.ensures ∙ c.into_inner.ensures.items)
    ∙ print_written shown start end c.new-out.ensures.tokens c.in-Ok.ensures

pub returns-in-Ok-clause-again : goal.returns-in-Ok-clause-again
returns-in-Ok-clause-again c =
    record {
      again = λ deep.
          let shown : Data = shown_as (named c.args.m.now c.args.id.number) (view c.args.value.now) in
          let start : Written = c.new-out.result in
          let end : Written = c.write_value.new.out in
          let bytes : c.from_vec.result ≡ print end.tokens =
          all_written shown start end c.from_vec.result (c.new-out.ensures.before ∙ c.in_ok-with_capacity.ensures.items) c.new-out.ensures.tokens
          c.in-Ok.ensures (c.from_vec.ensures ∙ c.into_inner.ensures.items) in
          let ordered = printed_ordered (named c.args.m.now c.args.id.number) (view c.args.value.now) in (
            subst IsUtf8 (sym bytes) c.into_inner.ensures.utf8,
            ap read (bytes ∙ print_written shown start end c.new-out.ensures.tokens c.in-Ok.ensures)
                ∙ reads_again shown ordered c.in-Ok.ensures.1 deep,
          );
    }
