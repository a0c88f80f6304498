use Rattle.scenario.proofs.Common.{List, ℕ, ap, LinkRow, NodeRow, network_fault, texts_of}
use Rattle.scenario.{proofs.Composed.links_told, proofs.Composed.network_none, proofs.Composed.network_is, proofs.Told.first_stop, specs.Faults.TellsFile}
use Rattle.scenario.proofs.network_read.read_network.Goals as goal

pub returns-in-Err : goal.returns-in-Err
unfolding TellsFile network_fault
returns-in-Err c = first_stop c.in-Err.error _ _ c.in-Err.ensures.read

pub returns-in-Err-links_in : goal.returns-in-Err-links_in
unfolding TellsFile
returns-in-Err-links_in c =
    links_told c.in-Err-links_in.error (texts_of c.args.files.now) c.in-Ok.read.0 c.in-Ok.ensures.read.0 (ap (λ (p : List (List ℕ) × List NodeRow). p.0) c.in-Ok.ensures.read.1) c.in-Err-links_in.ensures.read

pub returns-in-Ok-links_in : goal.returns-in-Ok-links_in
unfolding TellsFile
returns-in-Ok-links_in c =
    let T = texts_of c.args.files.now in
    let nodes = c.in-Ok.ensures.read in
    let links = c.in-Ok-links_in.ensures.read in
    let named = ap (λ (p : List (List ℕ) × List NodeRow). p.0) nodes.1 in (
      network_none T c.in-Ok.read.0 nodes.0 named links.0,
      network_is T c.in-Ok.read.0 c.in-Ok.read.1 c.in-Ok-links_in.link_names c.in-Ok-links_in.links named (ap (λ (p : List (List ℕ) × List NodeRow). p.1) nodes.1)
          (ap (λ (p : List (List ℕ) × List LinkRow). p.0) links.1) (ap (λ (p : List (List ℕ) × List LinkRow). p.1) links.1),
    )
