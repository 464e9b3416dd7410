mod Generating
