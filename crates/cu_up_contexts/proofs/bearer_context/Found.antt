-- A bearer of a context, by its number.
use Rattle.std.proofs.Common.{◌≡◌, ℕ, ◌+◌, ◌<◌, length, List, get_or, Some, None, sym, ap, ◌∙◌, arith}
use Rattle.std.proofs.Math.ListN.{set}
use Rattle.std.proofs.lemmas.List.{set-get_or}
use Rattle.gnb_types.specs.declared.names.BearerId.{BearerId}
use Rattle.gnb_types.specs.declared.names.SnBits.{SnBits}
use Rattle.gnb_types.specs.Orders.{bearer_cmp}
use Rattle.tables.specs.Tables.{find}
use Rattle.unit_defs.specs.CuUpRecords.{CuUpBearer, CuUpContext}
use Rattle.cu_up_bearer.specs.declared.tunnels.at.Flags.{Flags}
use Rattle.cu_up_bearer.specs.bearers.Bearers.{kept}
use Rattle.cu_up_bearer.specs.declared.bearers.bearer.Bearer.{Bearer}
use Rattle.cu_up_contexts.specs.bearer_context.Bearers.{context_as, IsOutside}
use Rattle.cu_up_contexts.specs.bearer_context.Contexts.{with_one}
use Rattle.cu_up_contexts.proofs.bearer_context.Numbered.{find_numbered, none_outside, put_numbered}

module _ (instance : ℕ) (sn : SnBits) (quota : ℕ) (flags : Flags) (bs : List Bearer) (id : BearerId) where
  abbrev pub whole : List Bearer → CuUpContext
  whole xs = context_as instance sn quota flags xs

  pub not_found : (count : ℕ) → count ≡ length bs → IsOutside id.0 count → find bearer_cmp (whole bs).bearers id ≡ None
  not_found count count_is outside = none_outside bs id count count_is outside

  module _ (i : ℕ) (b : Bearer) (within : i < length bs) (number_is : i + 1 ≡ id.0) (at : b ≡ get_or bs i b) where
    place : id.0 ≡ 1 + i
    place = omega (arith, number_is)

    pub found : find bearer_cmp (whole bs).bearers id ≡ Some (kept b)
    found = find_numbered b bs 1 i id within place ∙ ap (λ (x : Bearer). Some (kept x)) (sym at)

    pub with_there : (c : Bearer) → with_one (whole bs) id (kept c) ≡ whole (set bs i c)
    with_there c = ap (λ (es : List (BearerId × CuUpBearer)). record (whole bs) { bearers = es }) (put_numbered c bs 1 i id within place)

    pub with_back : with_one (whole bs) id (kept b) ≡ whole bs
    with_back = with_there b ∙ ap whole (ap (λ (x : Bearer). set bs i x) at ∙ set-get_or bs i b)
