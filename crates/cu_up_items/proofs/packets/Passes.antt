-- What goes on to the target, where there is a hop.
use Rattle.std.proofs.Common.{◌≡◌, List, [], ◌∷◌, ◌++◌, Option, Some, None, ap, ◌∙◌, append-nil, ℕ, sym}
use Rattle.gnb_types.specs.declared.names.Dir.{Dir}
use Rattle.gnb_types.specs.declared.names.Dir.TheVariants.{Dl, Ul}
use Rattle.gnb_types.specs.declared.outputs.Output.{Output}
use Rattle.gnb_types.specs.declared.outputs.Output.TheVariants as outs
use Rattle.gnb_types.specs.declared.outputs.Tag.{Tag}
use Rattle.unit_defs.specs.Ways.{Load}
use Rattle.unit_defs.specs.CuUpRecords.{SourceHop, CuUpBearer}
use Rattle.unit_defs.specs.CuUpBearers.{forwarded_down, forwarded_up, put_down, put_up}
use Rattle.unit_defs.specs.octet_defs.Codec.{Codec, octet_way}
use Rattle.unit_defs.specs.octet_defs.Writing.{load_octets}
use Rattle.unit_messages.specs.steps.Steps.{stepped, step_after}
use Rattle.cu_up_bearer.specs.declared.tunnels.at.Scope.{Scope}
use Rattle.cu_up_bearer.specs.declared.tunnels.hop.Hop.{Hop}
use Rattle.cu_up_bearer.specs.tunnels.Tunnels.{at_as, hop_as, hop_teid}
use Rattle.cu_up_items.specs.packets.Passing.{passed_on}

module _ (codec : Codec) (a : Scope) (tag : Tag) (load : Load (List ℕ)) (b : CuUpBearer) (before : List Output) (o : Option Hop) (same : b.hop ≡ hop_as o) where
  pub passes_nothing : (dir : Dir) → o ≡ None → step_after before (passed_on (octet_way codec) dir (at_as a) tag load b) ≡ stepped before b
  unfolding forwarded_down forwarded_up
  passes_nothing Dl is =
      ap (λ (h : Option SourceHop). step_after before (put_down (octet_way codec) (at_as a) tag load b h)) (same ∙ ap (λ (h : Option Hop). hop_as h) is)
      ∙ ap (λ (os : List Output). stepped os b) (append-nil before)
  passes_nothing Ul is =
      ap (λ (h : Option SourceHop). step_after before (put_up (octet_way codec) (at_as a) tag load b h)) (same ∙ ap (λ (h : Option Hop). hop_as h) is)
      ∙ ap (λ (os : List Output). stepped os b) (append-nil before)

  pub passes_one : (dir : Dir) (h : Hop) (new : List Output) → o ≡ Some h
      → new ≡ before ++ outs.Packet h.peer (hop_teid h dir) a.ue a.bearer dir tag (load_octets (hop_teid h dir) load) ∷ []
      → step_after before (passed_on (octet_way codec) dir (at_as a) tag load b) ≡ stepped new b
  unfolding forwarded_down forwarded_up
  passes_one Dl h new is put_is =
      ap (λ (x : Option SourceHop). step_after before (put_down (octet_way codec) (at_as a) tag load b x)) (same ∙ ap (λ (x : Option Hop). hop_as x) is)
      ∙ ap (λ (os : List Output). stepped os b) (sym put_is)
  passes_one Ul h new is put_is =
      ap (λ (x : Option SourceHop). step_after before (put_up (octet_way codec) (at_as a) tag load b x)) (same ∙ ap (λ (x : Option Hop). hop_as x) is)
      ∙ ap (λ (os : List Output). stepped os b) (sym put_is)
