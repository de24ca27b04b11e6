use Rattle.std.proofs.Common.{◌≡◌, ◌∷◌, [], Option, Some, ap, ◌∙◌, subst}
use Rattle.std.specs.Prelude.{Result, Ok, IfOk}
use Rattle.std.specs.Option.{option_map}
use Rattle.aper_values.specs.Views.{view}
use Rattle.aper_defs.specs.Values.{Value, no_ies, no_options}
use Rattle.message_defs.specs.profile_defs.Elements as ies
use Rattle.message_defs.specs.E1.{written_e1}
use Rattle.message_defs.specs.Places.{put_element}
use Rattle.message_values.specs.declared.elements.ElementName.TheVariants as names
use Rattle.message_values.specs.Written.{message_of}
use Rattle.e1_messages.proofs.InOrder.{all_put}
use Rattle.e1_messages.proofs.writing.modification_request.Goals as goal

-- what an answer holds, where it is this one
holds : {A E : Type 0} (P : A → Type 0) {r : Result A E} {a : A} → r ≡ Ok a → IfOk r P → P a
holds P e p = subst (λ r. IfOk r P) e p

request : (ue instance : Value) (downlinks : Option Value) (mode : Value) (peer down up statuses du : Option Value) → Value
request ue instance downlinks mode peer down up statuses du = message_of 3 0
    (put_element ies.ue (Some ue) (put_element ies.instance (Some instance) (put_element ies.downlinks downlinks
    (put_element ies.mode (Some mode) (put_element ies.peer peer (put_element ies.forward_down down (put_element ies.forward_up up
    (put_element ies.statuses statuses (put_element ies.du du no_ies))))))))) no_options

same_request : {ue ue' instance instance' mode mode' : Value} {downlinks downlinks' peer peer' down down' up up' statuses statuses' du du' : Option Value}
    → ue ≡ ue' → instance ≡ instance' → downlinks ≡ downlinks' → mode ≡ mode' → peer ≡ peer' → down ≡ down' → up ≡ up'
    → statuses ≡ statuses' → du ≡ du'
    → request ue instance downlinks mode peer down up statuses du ≡ request ue' instance' downlinks' mode' peer' down' up' statuses' du'
same_request a b c d e f g h i = cc

pub returns : goal.returns
unfolding request written_e1
returns c =
    let seen = option_map view in
    let said = c.in_ok-statuses in
    let fours = said.ensures.kept in
    let threes = c.in_ok-forward_up.ensures.kept in
    let twos = c.in_ok-forward_down.ensures.kept in
    let same_downlinks = ap (λ t. t.0) fours ∙ ap (λ t. t.0) threes ∙ ap (λ t. t.0) twos ∙ c.in_ok-peer.ensures.kept in
    let same_peer = ap (λ t. t.1) fours ∙ ap (λ t. t.1) threes ∙ ap (λ t. t.1) twos in
    let same_down = ap (λ t. t.2) fours ∙ ap (λ t. t.2) threes in
    let same_up = ap (λ t. t.3) fours in
    let downlinks = ap seen same_downlinks ∙ c.in_ok-downlinks.ensures in
    let peer = ap seen same_peer ∙ holds _ c.in_ok-peer.ensures.ok c.from_any_peer.ensures in
    let down = ap seen same_down ∙ holds _ c.in_ok-forward_down.ensures.ok c.from_any_tunnels-2.ensures in
    let up = ap seen same_up ∙ holds _ c.in_ok-forward_up.ensures.ok c.from_any_tunnels-3.ensures in
    let statuses = holds _ said.ensures.ok c.from_any_statuses.ensures in
    c.in_ok-message_of.ensures
    ∙ ap (λ found. message_of 3 0 found no_options) (all_put ((names.Ue, Some c.from_ue.result) ∷ (names.Instance, Some c.from_number.result)
    ∷ (names.Downlinks, said.downlinks) ∷ (names.Mode, Some c.enumeral.result) ∷ (names.Peer, said.peer)
    ∷ (names.ForwardDown, said.forward_down) ∷ (names.ForwardUp, said.forward_up)
    ∷ (names.Statuses, said.statuses) ∷ (names.Du, c.from_any_octet.result) ∷ []))
    ∙ same_request c.from_ue.ensures c.from_number.ensures downlinks c.enumeral.ensures peer down up statuses c.from_any_octet.ensures
