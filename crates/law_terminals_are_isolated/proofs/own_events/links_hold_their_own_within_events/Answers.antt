use Rattle.law_terminals_are_isolated.proofs.own_events.Passed.{sound_past}
use Rattle.law_terminals_are_isolated.proofs.own_events.links_hold_their_own_within_events.Goals as goal

pub returns : goal.returns
returns c = λ reading events event s t there passed.
    let sound = sound_past reading events event s there t passed in
    (sound.itself, sound.owned, sound.standing, sound.tunnels, sound.radios)
