use Rattle.std.proofs.Common.{◌≡◌, List, ℕ, sym, ◌∙◌, refl, subst}
use Rattle.gtpu.specs.Headers.{header_octets, IsChain}
use Rattle.gtpu.proofs.Chains.{one_header}
use Rattle.link_packets.specs.Parts.{header}
use Rattle.link_packets.proofs.Written.{chain_is}
use Rattle.link_packets.proofs.writing.with_header.Goals as goal

pub encode-requires-clause-chain : goal.encode-requires-clause-chain
encode-requires-clause-chain c =
    let chain : c.as_slice.result.now ≡ header_octets (header c.args.code c.args.content.now) 0 =
    c.as_slice.ensures
    ∙ chain_is c.new-chain.result c.push.new.self c.append.new.self c.push-2.new.self c.args.content.now _ c.new-chain.ensures refl c.in_ok-push.ensures.ok c.in_ok-append.ensures.ok c.in_ok-push-2.ensures.ok c.args.code in
    subst (λ (xs : List ℕ). IsChain c.args.code xs) (sym chain) (one_header (header c.args.code c.args.content.now) c.requires.header)
